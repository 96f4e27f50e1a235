-- What the policies that keep a queue answer, LRU and FIFO, by the pairs that their cache holds.
use Rattle.std.proofs.Common.{◌≡◌, ℕ, ◌+◌, ◌-◌, ◌^◌, ◌<◌, ◌≤◌, ◌∙◌, sym, refl, ap, subst, true, false, eqb, min, List, [], ◌∷◌, ◌++◌, length, drop, arith, None, is_some, All, Contains, nat_eq, unwrap_or}
use Rattle.std.specs.declared.option.Option.{Option}
use Rattle.std.specs.List.{AllByRecursion}
use Rattle.std.specs.Map.{lookup, remove_entry}
use Rattle.std.specs.Option.{option_map_or}
use Rattle.std.proofs.lemmas.List.Sums.{sum_by_push}
use Rattle.lru.specs.LruCache.{LruCache, lru_cache, promoted, put_entries}
use Rattle.policy_model.specs.declared.names.PolicyName.{PolicyName}
use Rattle.policy_model.specs.declared.names.PolicyName.TheVariants.{Lru, Fifo}
use Rattle.policy_model.specs.States.{Member, Entry, Stock, State, member_of, members_of, used, has_entry, has_member, nothing_beside}
use Rattle.policy_model.specs.Steps.{make_room, without_entry, on_miss, fresh_entry, plain_after}
use Rattle.policy_model.specs.Rules.{stock_after}
use Rattle.policy_model.proofs.Entries.{Apart}
use Rattle.policy_model.proofs.Leavings.{fit-without}
use Rattle.policy_model.proofs.MemberLemmas.{sizes-entries, among-itself, among-members}
use Rattle.policy_model.proofs.Replays.{has_entry-members}
use Rattle.policy_model.proofs.Removals.{make_room-fewer, make_room-apart, make_room-each, Shrinks-drop}
use Rattle.policy_model.proofs.Sound.{IsFit, fit-plain, sum-without, after-hit, after-large, after-small, each-other, none-other, each-drop}
use Rattle.replay_core.specs.declared.policy.Outcome.TheVariants.{Hit, Miss}
use Rattle.replay_core.specs.Keeping.{Kept, state_of, Answers}
use Rattle.replay_core.proofs.Kept.{answered, answers-fit}
use Rattle.replay_recency.specs.LruEntries.{entries_of, plain_entry, IsLru}
use Rattle.replay_recency.proofs.LruLemmas.{length-entries, has_entry-lookup, lookup_entry-none, entries-removed, used-removed, entries-promoted, entries-put}

abbrev pub kept : ℕ → ℕ → ℕ → List (ℕ × ℕ) → Kept
kept objects capacity requests pairs = record { objects = objects; capacity = capacity; now = requests; entries = entries_of pairs; beside = nothing_beside }

pub holds-member : (pairs : List (ℕ × ℕ)) (k : ℕ) → is_some (lookup (nat_eq k) pairs) ≡ has_member (members_of (entries_of pairs)) k
holds-member pairs k = sym (has_entry-lookup pairs k) ∙ has_entry-members (entries_of pairs) k

-- an object that is not there leaves the order as it is
pub promoted-none : (pairs : List (ℕ × ℕ)) (k : ℕ) → is_some (lookup (nat_eq k) pairs) ≡ false → promoted (nat_eq k) pairs ≡ pairs
promoted-none pairs k none = ap (λ o. option_map_or (λ e. e ∷ remove_entry (nat_eq k) pairs) o pairs) (lookup_entry-none pairs k none)

-- what each of the two does with an object that is not held
module _ (objects capacity requests in_use cap : ℕ) (pairs : List (ℕ × ℕ)) (lru : IsLru capacity in_use cap pairs) (k size : ℕ)
    (sizes : All (λ m. m.object ≡ k → m.size ≡ size) (members_of (entries_of pairs))) where
  module _ (none : is_some (lookup (nat_eq k) pairs) ≡ false) where
    -- after room was made
    module _ (left : List (ℕ × ℕ)) (freed : entries_of left ≡ make_room (length pairs) (drop 1) capacity size (entries_of pairs)) where
      no_more : used (entries_of left) ≤ capacity
      no_more = let low : used (entries_of pairs) ≤ capacity = lru.fits.room in omega (arith, ap used freed, make_room-fewer (drop 1) length Shrinks-drop capacity size (length pairs) (entries_of pairs))

      pub freed-fit : IsFit capacity (entries_of left)
      freed-fit = record {
        room = no_more;
        apart = subst Apart (sym freed) (make_room-apart (drop 1) length Shrinks-drop capacity size (length pairs) (entries_of pairs) lru.fits.apart);
      }

      pub freed-none : is_some (lookup (nat_eq k) left) ≡ false
      freed-none =
          sym (has_entry-lookup left k)
          ∙ ap (λ es. has_entry es k) freed
          ∙ none-other k (make_room (length pairs) (drop 1) capacity size (entries_of pairs))
          (make_room-each (drop 1) length Shrinks-drop capacity size (AllByRecursion (λ e. eqb e.object k ≡ false)) (each-drop (λ e. eqb e.object k ≡ false) (λ e h. h)) (length pairs) (entries_of pairs)
          (each-other k (entries_of pairs) (has_entry-lookup pairs k ∙ none)))

      -- members that are left were there
      pub freed-members : (m : Member) → Contains (members_of (entries_of left)) m → Contains (members_of (entries_of pairs)) m
      freed-members m c =
          among-members (entries_of pairs) (entries_of left)
          (subst (AllByRecursion (λ e. Contains (members_of (entries_of pairs)) (member_of e))) (sym freed)
          (make_room-each (drop 1) length Shrinks-drop capacity size (AllByRecursion (λ e. Contains (members_of (entries_of pairs)) (member_of e)))
          (each-drop (λ e. Contains (members_of (entries_of pairs)) (member_of e)) (λ e h. h)) (length pairs) (entries_of pairs) (among-itself (entries_of pairs)))) m c

      module _ (small : size ≤ capacity) (few : length left ≤ cap - 1) where
        put : entries_of (put_entries nat_eq (lru_cache left cap) k size) ≡ entries_of left ++ plain_entry (k, size) ∷ []
        put = entries-put (lru_cache left cap) k size freed-none few

-- a rule that keeps entries alone
abbrev pub KeepsEntries : PolicyName → Type 0
KeepsEntries name = (s : State) (object size : ℕ) (next : Option ℕ) → stock_after name s object size next ≡ record { entries = plain_after s object size next; beside = s.beside }

-- the answers to it are one for both rules
module _ (name : PolicyName) (alone : KeepsEntries name) (objects capacity requests in_use cap : ℕ) (pairs : List (ℕ × ℕ)) (lru : IsLru capacity in_use cap pairs) (k size : ℕ)
    (sizes : All (λ m. m.object ≡ k → m.size ≡ size) (members_of (entries_of pairs))) where
  module _ (none : is_some (lookup (nat_eq k) pairs) ≡ false) where
    pub large-answers : (next : Option ℕ) → capacity < size → Answers name (kept objects capacity requests pairs) (kept objects capacity (min (requests + 1) (2 ^ 64 - 1)) pairs) k size next Miss
    large-answers next large =
        answered name (kept objects capacity requests pairs) (kept objects capacity (min (requests + 1) (2 ^ 64 - 1)) pairs) k size next Miss
        (sym (has_entry-lookup pairs k ∙ none)) refl refl refl
        (sym (ap (λ (x : Stock). x.entries) (alone (state_of name (kept objects capacity requests pairs)) k size next) ∙ after-large (state_of name (kept objects capacity requests pairs)) k size next (has_entry-lookup pairs k ∙ none) large))
        (sym (ap (λ (x : Stock). x.beside) (alone (state_of name (kept objects capacity requests pairs)) k size next)))

    module _ (left : List (ℕ × ℕ)) (freed : entries_of left ≡ make_room (length pairs) (drop 1) capacity size (entries_of pairs)) where
      module _ (small : size ≤ capacity) (few : length left ≤ cap - 1)
          (miss_is : (next : Option ℕ) → on_miss name capacity (fresh_entry name requests k size next) (entries_of pairs) ≡ make_room (length (entries_of pairs)) (drop 1) capacity size (entries_of pairs) ++ plain_entry (k, size) ∷ []) where
        pub miss-answers : (next : Option ℕ) → Answers name (kept objects capacity requests pairs) (kept objects capacity (min (requests + 1) (2 ^ 64 - 1)) (put_entries nat_eq (lru_cache left cap) k size)) k size next Miss
        miss-answers next =
            answered name (kept objects capacity requests pairs) (kept objects capacity (min (requests + 1) (2 ^ 64 - 1)) (put_entries nat_eq (lru_cache left cap) k size)) k size next Miss
            (sym (has_entry-lookup pairs k ∙ none)) refl refl refl
            (put objects capacity requests in_use cap pairs lru k size sizes none left freed small few ∙ ap (λ es. es ++ plain_entry (k, size) ∷ []) (freed ∙ ap (λ n. make_room n (drop 1) capacity size (entries_of pairs)) (sym (length-entries pairs)))
            ∙ sym (miss_is next) ∙ sym (ap (λ (x : Stock). x.entries) (alone (state_of name (kept objects capacity requests pairs)) k size next) ∙ after-small (state_of name (kept objects capacity requests pairs)) k size next (has_entry-lookup pairs k ∙ none) small))
            (sym (ap (λ (x : Stock). x.beside) (alone (state_of name (kept objects capacity requests pairs)) k size next)))

        pub miss-lru : (more : ℕ) → more ≡ used (entries_of left) + size → IsLru capacity more cap (put_entries nat_eq (lru_cache left cap) k size)
        miss-lru more sum = record {
          range = lru.range;
          unbounded = lru.unbounded;
          in_use_is = omega (arith, sum, ap used (put objects capacity requests in_use cap pairs lru k size sizes none left freed small few), sum_by_push (λ (e : Entry). e.size) (entries_of left) (plain_entry (k, size)));
          fits = subst (IsFit capacity)
              (sym (ap (λ (s : State). s.entries) (miss-answers None).state_is ∙ ap (λ (x : Stock). x.entries) (alone (state_of name (kept objects capacity requests pairs)) k size None)))
              (fit-plain (state_of name (kept objects capacity requests pairs)) k size None (sizes-entries k size (entries_of pairs) sizes) lru.fits);
        }

-- a hit of FIFO changes nothing, and one of LRU moves its object to the back
module _ (objects capacity requests in_use cap : ℕ) (pairs : List (ℕ × ℕ)) (lru : IsLru capacity in_use cap pairs) (k size : ℕ)
    (sizes : All (λ m. m.object ≡ k → m.size ≡ size) (members_of (entries_of pairs))) where
  pub fifo-hit-answers : (there : is_some (lookup (nat_eq k) pairs) ≡ true) (next : Option ℕ) → Answers Fifo (kept objects capacity requests pairs) (kept objects capacity (min (requests + 1) (2 ^ 64 - 1)) pairs) k size next Hit
  fifo-hit-answers there next =
      answered Fifo (kept objects capacity requests pairs) (kept objects capacity (min (requests + 1) (2 ^ 64 - 1)) pairs) k size next Hit
      (sym (has_entry-lookup pairs k ∙ there)) refl refl refl
      (sym (after-hit (state_of Fifo (kept objects capacity requests pairs)) k size next (has_entry-lookup pairs k ∙ there))) refl

  entry_sizes : AllByRecursion (λ e. e.object ≡ k → e.size ≡ size) (entries_of pairs)
  entry_sizes = sizes-entries k size (entries_of pairs) sizes

  module _ (there : is_some (lookup (nat_eq k) pairs) ≡ true) where
    moved : entries_of (promoted (nat_eq k) pairs) ≡ without_entry k (entries_of pairs) ++ plain_entry (k, size) ∷ []
    moved = entries-promoted pairs k size lru.fits.apart entry_sizes there

    pub lru-hit-answers : (next : Option ℕ) → Answers Lru (kept objects capacity requests pairs) (kept objects capacity (min (requests + 1) (2 ^ 64 - 1)) (promoted (nat_eq k) pairs)) k size next Hit
    lru-hit-answers next =
        answered Lru (kept objects capacity requests pairs) (kept objects capacity (min (requests + 1) (2 ^ 64 - 1)) (promoted (nat_eq k) pairs)) k size next Hit
        (sym (has_entry-lookup pairs k ∙ there)) refl refl refl
        (moved ∙ sym (after-hit (state_of Lru (kept objects capacity requests pairs)) k size next (has_entry-lookup pairs k ∙ there))) refl

    pub lru-hit-fits : IsLru capacity in_use cap (promoted (nat_eq k) pairs)
    lru-hit-fits = record {
      range = lru.range;
      unbounded = lru.unbounded;
      in_use_is = (let before : in_use ≡ used (entries_of pairs) = lru.in_use_is in omega (
        arith,
        ap used moved,
        sum_by_push (λ (e : Entry). e.size) (without_entry k (entries_of pairs)) (plain_entry (k, size)),
        sum-without k size (entries_of pairs) lru.fits.apart (has_entry-lookup pairs k ∙ there) entry_sizes,
      ));
      fits = answers-fit Lru (kept objects capacity requests pairs) (kept objects capacity (min (requests + 1) (2 ^ 64 - 1)) (promoted (nat_eq k) pairs)) k size None Hit (lru-hit-answers None) tt sizes lru.fits;
    }

-- ---- an object that is let go of
module _ (capacity in_use cap : ℕ) (pairs : List (ℕ × ℕ)) (lru : IsLru capacity in_use cap pairs) (k gone : ℕ) (is : gone ≡ unwrap_or (lookup (nat_eq k) pairs) 0) where
  pub gone-few : gone ≤ in_use
  gone-few = let all : in_use ≡ used (entries_of pairs) = lru.in_use_is in omega (arith, all, is, used-removed pairs k)

  pub left-entries : (cache : LruCache ℕ ℕ) → cache ≡ lru_cache (remove_entry (nat_eq k) pairs) cap → entries_of cache.entries ≡ without_entry k (entries_of pairs)
  left-entries cache removed = ap (λ (r : LruCache ℕ ℕ). entries_of r.entries) removed ∙ entries-removed pairs k lru.fits.apart

  pub left-lru : (cache : LruCache ℕ ℕ) → cache ≡ lru_cache (remove_entry (nat_eq k) pairs) cap → IsLru capacity (in_use - gone) cache.cap cache.entries
  left-lru cache removed =
      let all : in_use ≡ used (entries_of pairs) = lru.in_use_is in
      record {
        range = lru.range;
        unbounded = ap (λ (r : LruCache ℕ ℕ). r.cap) removed ∙ lru.unbounded;
        in_use_is = omega (arith, all, is, used-removed pairs k, ap (λ (r : LruCache ℕ ℕ). used (entries_of r.entries)) removed);
        fits = subst (IsFit capacity) (sym (left-entries cache removed)) (fit-without capacity k (entries_of pairs) lru.fits);
      }
