-- The rule of Belady, one request at a time, and what its entries stand to gain.
use Rattle.std.proofs.Common.{◌≡◌, ℕ, zero, suc, ◌+◌, ◌*◌, ◌/◌, ◌<◌, ◌≤◌, ◌∙◌, sym, refl, ap, subst, ⊎_elim, Bool, true, false, ◌||◌, cond, eqb, leb, List, [], ◌∷◌, length, arith, Some, None}
use Rattle.std.specs.declared.option.Option.{Option}
use Rattle.std.specs.List.{AllByRecursion}
use Rattle.std.proofs.Math.Nat.{div-lt_iff_lt-mul, mul-le-mul_left}
use Rattle.std.proofs.lemmas.Bool.{eqb-true, lt-leb, le-leb, cases_lt, lt-ltb, le-ltb, or_parts, cond_both}
use Rattle.std.proofs.lemmas.List.{length-map}
use Rattle.std.proofs.lemmas.List.Sums.{sum_by-cons}
use Rattle.cache_model.specs.declared.objects.Object.{Object}
use Rattle.cache_model.proofs.Sums.{sum_by-nothing}
use Rattle.policy_model.specs.declared.names.PolicyName.TheVariants.{Belady}
use Rattle.policy_model.specs.States.{Entry, State, used, has_entry, nothing_beside}
use Rattle.policy_model.specs.Steps.{make_room, without_entry, remove_foremost, foremost, is_farther, touched, touch, put_in, fresh_entry}
use Rattle.policy_model.specs.Rules.{entries_after}
use Rattle.policy_model.proofs.Entries.{Apart, over, Sized, used-sized, Apart-put_in, All-put_in, sum_by-put_in, length-put_in, Apart-without, All-without, length-without, over-without, over-instead_none, over-instead_some, make_room-fits, make_room-over}
use Rattle.policy_laws.proofs.Farthest.{is_before, farthest-before, foremost-is, foremost-there}

module _ (num : Object → ℕ) where
  -- the first of the requests from t on that is for the object of number k
  abbrev pub next_in : ℕ → List Object → ℕ → Option ℕ
  next_in t [] k = None
  next_in t (y ∷ later) k = cond (eqb k (num y)) (Some t) (next_in (t + 1) later k)

  next_in-late : (t b : ℕ) (later : List Object) (k : ℕ) → b ≤ t → is_before (next_in t later k) b ≡ false
  next_in-late t b [] k low = refl
  next_in-late t b (y ∷ later) k low =
      cond_both (eqb k (num y)) (Some t) (next_in (t + 1) later k) (λ o. is_before o b ≡ false) (λ _. le-ltb t b low) (λ _. next_in-late (t + 1) b later k (omega arith))

  module _ (gain : ℕ) where
    -- the gain, if one of the next n requests is for the object of number k
    abbrev pub due : ℕ → List Object → ℕ → ℕ
    due zero later k = 0
    due (suc n) [] k = 0
    due (suc n) (y ∷ later) k = cond (eqb k (num y)) gain (due n later k)

    -- the same by the next request
    due-before : (n t : ℕ) (later : List Object) (k : ℕ) → due n later k ≡ cond (is_before (next_in t later k) (t + n)) gain 0
    due-before zero t later k = sym (ap (λ b. cond b gain 0) (next_in-late t (t + 0) later k (omega arith)))
    due-before (suc n) t [] k = refl
    due-before (suc n) t (y ∷ later) k = at (eqb k (num y)) (due-before n (t + 1) later k)
      where
        at : (b : Bool) → due n later k ≡ cond (is_before (next_in (t + 1) later k) (t + 1 + n)) gain 0
            → cond b gain (due n later k) ≡ cond (is_before (cond b (Some t) (next_in (t + 1) later k)) (t + suc n)) gain 0
        at true rest = sym (ap (λ b. cond b gain 0) (lt-ltb t (t + suc n) (omega arith)))
        at false rest = let same : t + 1 + n ≡ t + suc n = omega arith in rest ∙ ap (λ m. cond (is_before (next_in (t + 1) later k) m) gain 0) same

    -- where each next request comes in time, each entry is due
    over-all : (n t : ℕ) (later : List Object) (entries : List Entry) → AllByRecursion (λ e. e.next ≡ next_in t later e.object) entries → AllByRecursion (λ e. is_before e.next (t + n) ≡ true) entries
        → over (due n later) entries ≡ length entries * gain
    over-all n t later [] nexts before = omega arith
    over-all n t later (e ∷ rest) nexts before =
        let here : due n later e.object ≡ gain =
        due-before n t later e.object ∙ ap (λ o. cond (is_before o (t + n)) gain 0) (sym nexts.0) ∙ ap (λ b. cond b gain 0) before.0 in
        omega (arith, over-all n t later rest nexts.1 before.1, sum_by-cons (λ (f : Entry). due n later f.object) e rest)

  -- ---- a hit renews the next request of an entry
  module _ (now : ℕ) (next : Option ℕ) (k : ℕ) where
    renewed : (P : Entry → Type 0) (e : Entry) → (eqb e.object k ≡ true → P (touched Belady now next e)) → (eqb e.object k ≡ false → P e) → P (cond (eqb e.object k) (touched Belady now next e) e)
    renewed P e hit miss = cond_both (eqb e.object k) (touched Belady now next e) e P hit miss

    over-touch : (f : ℕ → ℕ) (entries : List Entry) → over f (touch Belady now next k entries) ≡ over f entries
    over-touch f [] = refl
    over-touch f (e ∷ rest) =
        omega (
          arith,
          over-touch f rest,
          renewed (λ g. f g.object ≡ f e.object) e (λ _. refl) (λ _. refl),
          sum_by-cons (λ (g : Entry). f g.object) e rest,
          sum_by-cons (λ (g : Entry). f g.object) (cond (eqb e.object k) (touched Belady now next e) e) (touch Belady now next k rest),
        )

    has_entry-touch : (j : ℕ) (entries : List Entry) → has_entry (touch Belady now next k entries) j ≡ has_entry entries j
    has_entry-touch j [] = refl
    has_entry-touch j (e ∷ rest) =
        ap (λ i. eqb i j || has_entry (touch Belady now next k rest) j) (renewed (λ g. g.object ≡ e.object) e (λ _. refl) (λ _. refl))
        ∙ ap (λ b. eqb e.object j || b) (has_entry-touch j rest)

    Apart-touch : (entries : List Entry) → Apart entries → Apart (touch Belady now next k entries)
    Apart-touch [] apart = tt
    Apart-touch (e ∷ rest) apart = (
      ap (has_entry (touch Belady now next k rest)) (renewed (λ g. g.object ≡ e.object) e (λ _. refl) (λ _. refl)) ∙ has_entry-touch e.object rest ∙ apart.0,
      Apart-touch rest apart.1,
    )

    Sized-touch : (s : ℕ) (entries : List Entry) → Sized s entries → Sized s (touch Belady now next k entries)
    Sized-touch s [] sized = tt
    Sized-touch s (e ∷ rest) sized = (renewed (λ g. g.size ≡ s) e (λ _. sized.0) (λ _. sized.0), Sized-touch s rest sized.1)

  module _ (t : ℕ) (r : Object) (later : List Object) where
    nexts-touch : (now : ℕ) (entries : List Entry) → AllByRecursion (λ e. e.next ≡ next_in t (r ∷ later) e.object) entries
        → AllByRecursion (λ e. e.next ≡ next_in (t + 1) later e.object) (touch Belady now (next_in (t + 1) later (num r)) (num r) entries)
    nexts-touch now [] nexts = tt
    nexts-touch now (e ∷ rest) nexts = (
      renewed now (next_in (t + 1) later (num r)) (num r) (λ f. f.next ≡ next_in (t + 1) later f.object) e
          (λ same. ap (next_in (t + 1) later) (sym (eqb-true e.object (num r) same)))
          (λ other. nexts.0 ∙ ap (λ b. cond b (Some t) (next_in (t + 1) later e.object)) other),
      nexts-touch now rest nexts.1,
    )

    nexts-stay : (entries : List Entry) → has_entry entries (num r) ≡ false → AllByRecursion (λ e. e.next ≡ next_in t (r ∷ later) e.object) entries
        → AllByRecursion (λ e. e.next ≡ next_in (t + 1) later e.object) entries
    nexts-stay [] none nexts = tt
    nexts-stay (e ∷ rest) none nexts =
        let parts : (eqb e.object (num r) ≡ false) × (has_entry rest (num r) ≡ false) = or_parts _ _ none in
        (nexts.0 ∙ ap (λ b. cond b (Some t) (next_in (t + 1) later e.object)) parts.0, nexts-stay rest parts.1 nexts.1)

  -- ---- the entry that is given up
  pub record Removes (t : ℕ) (later : List Object) (entries : List Entry) : Type 0 where
    pub object : ℕ
    pub is : remove_foremost is_farther entries ≡ without_entry object entries
    pub there : has_entry entries object ≡ true
    pub farthest : (b : ℕ) → is_before (next_in t later object) b ≡ true → AllByRecursion (λ e. is_before e.next b ≡ true) entries

  removes : (t : ℕ) (later : List Object) (entries : List Entry) → 0 < length entries → AllByRecursion (λ e. e.next ≡ next_in t later e.object) entries → Removes t later entries
  removes t later [] some nexts = absurd (omega arith)
  removes t later (e ∷ rest) some nexts =
      let next_is = foremost-is is_farther (λ f. f.next ≡ next_in t later f.object) e rest nexts in
      record {
        object = (foremost is_farther e rest).object;
        is = refl;
        there = foremost-there is_farther e rest;
        farthest = λ b before. farthest-before e rest b (ap (λ o. is_before o b) next_is ∙ before);
      }

  -- ---- one request
  module _ (gain c s : ℕ) where
    -- before request t the entries are apart, fit, have one size and know their next requests
    pub record Ready (t : ℕ) (later : List Object) (entries : List Entry) : Type 0 where
      pub apart : Apart entries
      pub sized : Sized s entries
      pub nexts : AllByRecursion (λ e. e.next ≡ next_in t later e.object) entries
      pub room : used entries ≤ c

    abbrev pub kept : ℕ → List Entry → State
    kept now entries = record { name = Belady; capacity = c; now = now; entries = entries; beside = nothing_beside }

    -- contents that has k1 and stands to gain sum n by the next n requests is no better than hb and the entries
    abbrev pub IsBehind : ℕ → (ℕ → ℕ) → ℕ → List Object → List Entry → Type 0
    IsBehind k1 sum hb later entries = (n : ℕ) → k1 + sum n ≤ hb + over (due gain n later) entries

    module _ (t now : ℕ) (r : Object) (later : List Object) (entries : List Entry) (ready : Ready t (r ∷ later) entries) (one_size : leb r.size c ≡ true → r.size ≡ s)
        (k1 hb amount : ℕ) (sum soon : ℕ → ℕ) (nothing : sum 0 ≡ 0) (most : 0 < s → (n : ℕ) → sum n ≤ gain * (c / s)) (soon-le : (n : ℕ) → soon n ≤ due gain n later (num r))
        (soon-none : leb r.size c ≡ false → (n : ℕ) → soon n ≡ 0) (enough : gain ≤ amount)
        (behind : (n : ℕ) → k1 + sum n ≤ hb + over (due gain (suc n) (r ∷ later)) entries + soon n) where
      next : Option ℕ
      next = next_in (t + 1) later (num r)

      abbrev Goes : Bool → List Entry → Type 0
      Goes hit after = Ready (t + 1) later after × IsBehind k1 sum (hb + cond hit amount 0) later after

      hits : has_entry entries (num r) ≡ true → Goes true (touch Belady now (next_in (t + 1) later (num r)) (num r) entries)
      hits there =
          let after : List Entry = touch Belady now (next_in (t + 1) later (num r)) (num r) entries in
          let sized : Sized s after = Sized-touch now (next_in (t + 1) later (num r)) (num r) s entries ready.sized in (
            record {
              apart = Apart-touch now (next_in (t + 1) later (num r)) (num r) entries ready.apart;
              sized = sized;
              nexts = nexts-touch t r later now entries ready.nexts;
              room = (let fits : used entries ≤ c = ready.room in let long : length after ≡ length entries = length-map entries (λ (f : Entry). cond (eqb f.object (num r)) (touched Belady now (next_in (t + 1) later (num r)) f) f) in
                  let total : length after * s ≡ length entries * s = ap (λ n. n * s) long in
                  omega (arith, used-sized s after sized, used-sized s entries ready.sized));
            },
            λ n. omega (
              arith,
              behind n,
              soon-le n,
              over-instead_some (due gain n later) (num r) gain entries ready.apart there,
              over-touch now (next_in (t + 1) later (num r)) (num r) (due gain n later) entries,
            ),
          )

      module _ (absent : has_entry entries (num r) ≡ false) where
        later_nexts : AllByRecursion (λ e. e.next ≡ next_in (t + 1) later e.object) entries
        later_nexts = nexts-stay t r later entries absent ready.nexts

        -- with the object put in and none given up
        behind_more : (n : ℕ) → k1 + sum n ≤ hb + over (due gain n later) entries + soon n
        behind_more n = omega (arith, behind n, over-instead_none (due gain n later) (num r) gain entries absent)

        bypasses : leb r.size c ≡ false → Goes false entries
        bypasses large = (
          record { apart = ready.apart; sized = ready.sized; nexts = later_nexts; room = ready.room },
          λ n. omega (arith, behind_more n, soon-none large n),
        )

        module _ (small : leb r.size c ≡ true) where
          e : Entry
          e = fresh_entry Belady now (num r) r.size (next_in (t + 1) later (num r))

          abbrev more : List Entry
          more = put_in (fresh_entry Belady now (num r) r.size (next_in (t + 1) later (num r))) entries

          apart : Apart more
          apart = Apart-put_in entries (fresh_entry Belady now (num r) r.size (next_in (t + 1) later (num r))) ready.apart absent

          sized : Sized s more
          sized = All-put_in (λ f. f.size ≡ s) entries (fresh_entry Belady now (num r) r.size (next_in (t + 1) later (num r))) ready.sized (one_size small)

          nexts : AllByRecursion (λ f. f.next ≡ next_in (t + 1) later f.object) more
          nexts = All-put_in (λ f. f.next ≡ next_in (t + 1) later f.object) entries (fresh_entry Belady now (num r) r.size (next_in (t + 1) later (num r))) later_nexts refl

          long : length more ≡ length entries + 1
          long = length-put_in entries (fresh_entry Belady now (num r) r.size (next_in (t + 1) later (num r)))

          over_more : (n : ℕ) → over (due gain n later) more ≡ over (due gain n later) entries + due gain n later (num r)
          over_more n = sum_by-put_in (λ (f : Entry). due gain n later f.object) entries (fresh_entry Belady now (num r) r.size (next_in (t + 1) later (num r)))

          enters : used more ≤ c → Goes false more
          enters fits = (
            record { apart = apart; sized = sized; nexts = nexts; room = fits },
            λ n. omega (arith, behind_more n, soon-le n, over_more n),
          )

          -- nothing was due before request t + 1
          no_more : k1 ≤ hb
          no_more = omega (arith, behind_more 0, nothing, soon-le 0, sum_by-nothing (λ (f : Entry). due gain 0 later f.object) entries (λ f. refl))

          module _ (over_full : c < used more) where
            gone : Removes (t + 1) later more
            gone = removes (t + 1) later more (omega (arith, long)) nexts

            one_less : length (without_entry gone.object more) + 1 ≡ length more
            one_less = length-without gone.object more apart gone.there

            positive : (n : ℕ) → n ≡ s → 0 < s
            positive zero same = absurd (omega (arith, used-sized s more sized, ap (λ m. length more * m) same))
            positive (suc n) same = omega arith

            enough_room : c / s ≤ length entries
            enough_room =
                let all : used more ≡ length more * s = used-sized s more sized in
                let total : length more * s ≡ (length entries + 1) * s = ap (λ m. m * s) long in
                let below : c / s < length entries + 1 = (div-lt_iff_lt-mul {x = c} {y = length entries + 1} (positive s refl)).1 (omega arith) in
                omega arith

            part : (n : ℕ) → over (due gain n later) (without_entry gone.object more) + due gain n later gone.object ≡ over (due gain n later) more
            part n = over-without (due gain n later) gone.object more apart gone.there

            behind_less : (n : ℕ) → k1 + sum n ≤ hb + 0 + over (due gain n later) (without_entry gone.object more)
            behind_less n = at (is_before (next_in (t + 1) later gone.object) (t + 1 + n)) refl
              where
                at : (b : Bool) → is_before (next_in (t + 1) later gone.object) (t + 1 + n) ≡ b → k1 + sum n ≤ hb + 0 + over (due gain n later) (without_entry gone.object more)
                at true before =
                    let due_here : due gain n later gone.object ≡ gain = due-before gain n (t + 1) later gone.object ∙ ap (λ b. cond b gain 0) before in
                    let all : over (due gain n later) more ≡ length more * gain = over-all gain n (t + 1) later more nexts (gone.farthest (t + 1 + n) before) in
                    let total : length more * gain ≡ (length entries + 1) * gain = ap (λ m. m * gain) long in
                    let room : gain * (c / s) ≤ gain * length entries = mul-le-mul_left gain enough_room in
                    omega (arith, most (positive s refl) n, no_more, part n)
                at false not_before =
                    let not_due : due gain n later gone.object ≡ 0 = due-before gain n (t + 1) later gone.object ∙ ap (λ b. cond b gain 0) not_before in
                    omega (arith, behind_more n, soon-le n, over_more n, part n)

            evicts : Goes false (without_entry gone.object more)
            evicts = (
              record {
                apart = Apart-without gone.object more apart;
                sized = All-without (λ f. f.size ≡ s) gone.object more sized;
                nexts = All-without (λ f. f.next ≡ next_in (t + 1) later f.object) gone.object more nexts;
                room = (let same : length (without_entry gone.object more) ≡ length entries = omega (arith, one_less, long) in
                    let total : length (without_entry gone.object more) * s ≡ length entries * s = ap (λ m. m * s) same in
                    let fits : used entries ≤ c = ready.room in
                    omega (arith, used-sized s (without_entry gone.object more) (All-without (λ f. f.size ≡ s) gone.object more sized), used-sized s entries ready.sized));
              },
              behind_less,
            )

      -- an object that fits is put in, and an entry is given up if the sizes pass the capacity
      misses : has_entry entries (num r) ≡ false → leb r.size c ≡ true
          → Goes false (make_room (length entries + 1) (remove_foremost is_farther) c 0 (put_in (fresh_entry Belady now (num r) r.size (next_in (t + 1) later (num r))) entries))
      misses absent small =
          let all : List Entry = put_in (fresh_entry Belady now (num r) r.size (next_in (t + 1) later (num r))) entries in
          ⊎_elim
          (λ (full : c < used all).
          let g : Removes (t + 1) later all = gone absent small full in
          let left : List Entry = without_entry g.object all in
          let went : Goes false left = evicts absent small full in
          let fits : used left ≤ c = went.0.room in
          let turns : length entries + 1 ≡ suc (length entries) = omega arith in
          let e : make_room (length entries + 1) (remove_foremost is_farther) c 0 all ≡ left =
          ap (λ m. make_room m (remove_foremost is_farther) c 0 all) turns
          ∙ make_room-over (length entries) (remove_foremost is_farther) c 0 all (lt-leb (used all + 0) c (omega arith))
          ∙ ap (make_room (length entries) (remove_foremost is_farther) c 0) g.is
          ∙ make_room-fits (length entries) (remove_foremost is_farther) c 0 left (le-leb (used left + 0) c (omega arith)) in
          subst (Goes false) (sym e) went)
          (λ (fits : used all ≤ c).
          let e : make_room (length entries + 1) (remove_foremost is_farther) c 0 all ≡ all =
          make_room-fits (length entries + 1) (remove_foremost is_farther) c 0 all (le-leb (used all + 0) c (omega arith)) in
          subst (Goes false) (sym e) (enters absent small fits))
          (cases_lt c (used all))

      -- one request of the rule
      pub steps : Goes (has_entry entries (num r)) (entries_after (kept now entries) (num r) r.size (next_in (t + 1) later (num r)))
      steps = at (has_entry entries (num r)) (leb r.size c) refl refl
        where
          at : (hit small : Bool) → has_entry entries (num r) ≡ hit → leb r.size c ≡ small
              → Goes hit (cond hit (touch Belady now (next_in (t + 1) later (num r)) (num r) entries)
              (cond small (make_room (length entries + 1) (remove_foremost is_farther) c 0 (put_in (fresh_entry Belady now (num r) r.size (next_in (t + 1) later (num r))) entries)) entries))
          at true small there fits = hits there
          at false true absent fits = misses absent fits
          at false false absent large = bypasses absent large
