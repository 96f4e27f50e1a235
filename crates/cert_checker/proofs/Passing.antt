-- What it means that no rule of a record fails.
use Rattle.std.proofs.Common.{◌≡◌, ℕ, ◌*◌, ◌/◌, ◌^◌, ◌∙◌, sym, refl, ap, Bool, true, false, not, ◌&&◌, ◌==◌, nat_lt, List, [], ◌∷◌, ◌++◌, drop, None, Some, is_some, true≢false}
use Rattle.std.specs.Prelude.{Result, Ok, Err}
use Rattle.std.specs.declared.option.Option.{Option}
use Rattle.std.specs.Option.{option_or, option_map}
use Rattle.std.proofs.Common.{eq-eqb}
use Rattle.std.proofs.lemmas.Bool.{eqb-true, not-false}
use Rattle.cert_checker.specs.declared.verdict.Counted.{Counted}
use Rattle.cert_checker.specs.declared.invalid.InvalidKind.TheVariants.{Unused}
use Rattle.cache_model.specs.declared.objects.Object.{Object}
use Rattle.cache_model.specs.declared.certificates.Header.{Header}
use Rattle.cache_model.specs.declared.certificates.Record.{Record}
use Rattle.cache_model.specs.Claim.{gain_of}
use Rattle.cache_model.specs.Certificates.{units_of}
use Rattle.cert_checker.specs.declared.invalid.InvalidKind.{InvalidKind}
use Rattle.cert_checker.specs.declared.rules.Figures.{Figures}
use Rattle.cert_checker.specs.Rules.{found, first_some, divides, ends_interval, weight_in, record_rules, end_rules, unless_fault}

-- the first of two lists is that of the first, or else of the second
pub first_some-append : {A : Type 0} (xs ys : List (Option A)) → first_some (xs ++ ys) ≡ option_or (first_some xs) (first_some ys)
first_some-append [] ys = refl
first_some-append (None ∷ xs) ys = first_some-append xs ys
first_some-append (Some a ∷ xs) ys = refl

-- none of a list is there exactly if its first isn't and none of the others is
pub first_some-head : {A : Type 0} (o : Option A) (xs : List (Option A)) → first_some (o ∷ xs) ≡ None → o ≡ None
first_some-head None xs e = refl
first_some-head (Some a) xs e = absurd (true≢false (ap is_some e))

pub first_some-tail : {A : Type 0} (o : Option A) (xs : List (Option A)) → first_some (o ∷ xs) ≡ None → first_some xs ≡ None
first_some-tail None xs e = e
first_some-tail (Some a) xs e = absurd (true≢false (ap is_some e))

pub first_some-none : {A : Type 0} (o : Option A) (xs : List (Option A)) → o ≡ None → first_some xs ≡ None → first_some (o ∷ xs) ≡ None
first_some-none None xs here others = others
first_some-none (Some a) xs here others = absurd (true≢false (ap is_some here))

pub found-none : (test : Bool) (kind : InvalidKind) → found test kind ≡ None → test ≡ false
found-none true kind e = absurd (true≢false (ap is_some e))
found-none false kind e = refl

pub found-not : (test : Bool) (kind : InvalidKind) → test ≡ false → found test kind ≡ None
found-not true kind e = absurd (true≢false e)
found-not false kind e = refl

none-from_map : (o : Option ℕ) → option_map Unused o ≡ None → o ≡ None
none-from_map None e = refl
none-from_map (Some n) e = absurd (true≢false (ap is_some e))

map-none : (o : Option ℕ) → o ≡ None → option_map Unused o ≡ None
map-none o e = ap (option_map Unused) e

-- a record passes its eight rules
pub record Passes (h : Header) (x : Object) (r : Record) (now : Figures) : Type 0 where
  pub prices : nat_lt (2 ^ 126) (units_of h * now.prices) ≡ false
  pub last : (now.last && not (r.price == 0)) ≡ false
  pub unit : (ends_interval h x now && not (divides h.unit x.size)) ≡ false
  pub whole : (ends_interval h x now && h.exact && not (divides (x.size / h.unit) (h.denominator * gain_of h.objective x))) ≡ false
  pub load : nat_lt h.capacity now.load ≡ false
  pub flow : nat_lt (weight_in h x) r.flow ≡ false
  pub flows : nat_lt (units_of h) now.flows ≡ false
  pub unused : now.unused ≡ None

pub Passes-from_none : (h : Header) (x : Object) (r : Record) (now : Figures) → first_some (record_rules h x r now) ≡ None → Passes h x r now
Passes-from_none h x r now e0 =
    let e1 : first_some (drop 1 (record_rules h x r now)) ≡ None = first_some-tail _ (drop 1 (record_rules h x r now)) e0 in
    let e2 : first_some (drop 2 (record_rules h x r now)) ≡ None = first_some-tail _ (drop 2 (record_rules h x r now)) e1 in
    let e3 : first_some (drop 3 (record_rules h x r now)) ≡ None = first_some-tail _ (drop 3 (record_rules h x r now)) e2 in
    let e4 : first_some (drop 4 (record_rules h x r now)) ≡ None = first_some-tail _ (drop 4 (record_rules h x r now)) e3 in
    let e5 : first_some (drop 5 (record_rules h x r now)) ≡ None = first_some-tail _ (drop 5 (record_rules h x r now)) e4 in
    let e6 : first_some (drop 6 (record_rules h x r now)) ≡ None = first_some-tail _ (drop 6 (record_rules h x r now)) e5 in
    let e7 : first_some (drop 7 (record_rules h x r now)) ≡ None = first_some-tail _ (drop 7 (record_rules h x r now)) e6 in
    record {
      prices = found-none _ _ (first_some-head _ (drop 1 (record_rules h x r now)) e0);
      last = found-none _ _ (first_some-head _ (drop 2 (record_rules h x r now)) e1);
      unit = found-none _ _ (first_some-head _ (drop 3 (record_rules h x r now)) e2);
      whole = found-none _ _ (first_some-head _ (drop 4 (record_rules h x r now)) e3);
      load = found-none _ _ (first_some-head _ (drop 5 (record_rules h x r now)) e4);
      flow = found-none _ _ (first_some-head _ (drop 6 (record_rules h x r now)) e5);
      flows = found-none _ _ (first_some-head _ (drop 7 (record_rules h x r now)) e6);
      unused = none-from_map now.unused (first_some-head _ [] e7);
    }

pub none_from_Passes : (h : Header) (x : Object) (r : Record) (now : Figures) → Passes h x r now → first_some (record_rules h x r now) ≡ None
none_from_Passes h x r now p =
    let rules : List (Option InvalidKind) = record_rules h x r now in
    first_some-none _ (drop 1 (record_rules h x r now)) (found-not _ _ p.prices)
    (first_some-none _ (drop 2 (record_rules h x r now)) (found-not _ _ p.last)
    (first_some-none _ (drop 3 (record_rules h x r now)) (found-not _ _ p.unit)
    (first_some-none _ (drop 4 (record_rules h x r now)) (found-not _ _ p.whole)
    (first_some-none _ (drop 5 (record_rules h x r now)) (found-not _ _ p.load)
    (first_some-none _ (drop 6 (record_rules h x r now)) (found-not _ _ p.flow)
    (first_some-none _ (drop 7 (record_rules h x r now)) (found-not _ _ p.flows)
    (first_some-none _ [] (map-none now.unused p.unused) refl)))))))

-- two checks in turn
pub unless_fault-append : (xs ys : List (Option InvalidKind)) → first_some xs ≡ None → unless_fault (first_some (xs ++ ys)) ≡ unless_fault (first_some ys)
unless_fault-append xs ys none = ap unless_fault (first_some-append xs ys ∙ ap (λ o. option_or o (first_some ys)) none)

pub unless_fault-first : (xs ys : List (Option InvalidKind)) (kind : InvalidKind) → first_some xs ≡ Some kind → unless_fault (first_some (xs ++ ys)) ≡ Err kind
unless_fault-first xs ys kind some = ap unless_fault (first_some-append xs ys ∙ ap (λ o. option_or o (first_some ys)) some)

abbrev err_or : Result (Unit {0}) InvalidKind → Option InvalidKind
err_or (Ok done) = None
err_or (Err kind) = Some kind

err_or-unless : (o : Option InvalidKind) → err_or (unless_fault o) ≡ o
err_or-unless None = refl
err_or-unless (Some kind) = refl

pub none_from_ok : (o : Option InvalidKind) → Ok tt ≡ unless_fault o → o ≡ None
none_from_ok o e = sym (err_or-unless o) ∙ sym (ap err_or e)

pub some_from_err : (o : Option InvalidKind) (kind : InvalidKind) → Err kind ≡ unless_fault o → o ≡ Some kind
some_from_err o kind e = sym (err_or-unless o) ∙ sym (ap err_or e)

-- the end passes its five rules
pub record EndPasses (h : Header) (unused : Option ℕ) (counted : Counted) : Type 0 where
  pub no_flow : unused ≡ None
  pub upper : h.upper ≡ counted.upper
  pub flow : h.flow ≡ counted.flow
  pub lower : h.lower ≡ counted.lower
  pub gap : h.exact ≡ true → counted.upper ≡ counted.flow

pub equal_from_not : (a b : ℕ) → not (a == b) ≡ false → a ≡ b
equal_from_not a b e = eqb-true a b (not-false (a == b) e)

pub not_from_equal : (a b : ℕ) → a ≡ b → not (a == b) ≡ false
not_from_equal a b e = ap not (ap (λ k. a == k) (sym e) ∙ eq-eqb a a refl)

pub second_from_and : (a b : Bool) → (a && b) ≡ false → a ≡ true → b ≡ false
second_from_and a b e holds = ap (λ t. t && b) (sym holds) ∙ e

pub and_from_second : (a b : Bool) → (a ≡ true → b ≡ false) → (a && b) ≡ false
and_from_second true b e = e refl
and_from_second false b e = refl

pub EndPasses-from_none : (h : Header) (unused : Option ℕ) (counted : Counted) → first_some (end_rules h unused counted) ≡ None → EndPasses h unused counted
EndPasses-from_none h unused counted e0 =
    let e1 : first_some (drop 1 (end_rules h unused counted)) ≡ None = first_some-tail (option_map Unused unused) (drop 1 (end_rules h unused counted)) e0 in
    let e2 : first_some (drop 2 (end_rules h unused counted)) ≡ None = first_some-tail _ (drop 2 (end_rules h unused counted)) e1 in
    let e3 : first_some (drop 3 (end_rules h unused counted)) ≡ None = first_some-tail _ (drop 3 (end_rules h unused counted)) e2 in
    let e4 : first_some (drop 4 (end_rules h unused counted)) ≡ None = first_some-tail _ (drop 4 (end_rules h unused counted)) e3 in
    record {
      no_flow = none-from_map unused (first_some-head (option_map Unused unused) (drop 1 (end_rules h unused counted)) e0);
      upper = equal_from_not h.upper counted.upper (found-none _ _ (first_some-head _ (drop 2 (end_rules h unused counted)) e1));
      flow = equal_from_not h.flow counted.flow (found-none _ _ (first_some-head _ (drop 3 (end_rules h unused counted)) e2));
      lower = equal_from_not h.lower counted.lower (found-none _ _ (first_some-head _ (drop 4 (end_rules h unused counted)) e3));
      gap = λ exact. equal_from_not counted.upper counted.flow (second_from_and h.exact (not (counted.upper == counted.flow)) (found-none _ _ (first_some-head _ [] e4)) exact);
    }

pub none_from_EndPasses : (h : Header) (unused : Option ℕ) (counted : Counted) → EndPasses h unused counted → first_some (end_rules h unused counted) ≡ None
none_from_EndPasses h unused counted p =
    first_some-none (option_map Unused unused) (drop 1 (end_rules h unused counted)) (map-none unused p.no_flow)
    (first_some-none _ (drop 2 (end_rules h unused counted)) (found-not _ _ (not_from_equal h.upper counted.upper p.upper))
    (first_some-none _ (drop 3 (end_rules h unused counted)) (found-not _ _ (not_from_equal h.flow counted.flow p.flow))
    (first_some-none _ (drop 4 (end_rules h unused counted)) (found-not _ _ (not_from_equal h.lower counted.lower p.lower))
    (first_some-none _ [] (found-not _ _ (and_from_second h.exact (not (counted.upper == counted.flow)) (λ exact. not_from_equal counted.upper counted.flow (p.gap exact)))) refl))))
