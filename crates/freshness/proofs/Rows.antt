-- The definitions at small traces, computed.
use Rattle.std.proofs.Common.{◌≡◌, ℕ, true, false, Bool, List, [], ◌∷◌, map, refl, None, Some}
use Rattle.cache_model.specs.declared.objects.Object.{Object}
use Rattle.cache_model.specs.Objects.{numbers_of}
use Rattle.freshness.specs.declared.fresh.Freshness.{Freshness}
use Rattle.freshness.specs.Stale.{clock, stale_marks}

-- objects expire after this time, and are not replaced
abbrev after : ℕ → Freshness
after idle = record { idle = Some idle; ttl = None; replace = false }

-- and if they were written longer ago than a time of its own
abbrev within : ℕ → ℕ → Freshness
within idle ttl = record { idle = Some idle; ttl = Some ttl; replace = false }

-- only what was written too long ago expires
abbrev written : ℕ → Freshness
written ttl = record { idle = None; ttl = Some ttl; replace = false }

-- nothing expires, and another size of an id replaces what it had
abbrev replaced : Freshness
replaced = record { idle = None; ttl = None; replace = true }

-- an object of an id of this size
abbrev sized : ℕ → Object
sized size = record { volume = 0; id = 1; size = size }

-- one object at times 0 to 8
abbrev five : List Object
five = sized 1 ∷ sized 1 ∷ sized 1 ∷ sized 1 ∷ sized 1 ∷ []

abbrev evenly : List ℕ
evenly = 0 ∷ 2 ∷ 4 ∷ 6 ∷ 8 ∷ []

stale_after_one : stale_marks (after 1) five evenly [] ≡ false ∷ true ∷ true ∷ true ∷ true ∷ []
stale_after_one = refl

-- what is as old as the time is fresh
stale_after_two : stale_marks (after 2) five evenly [] ≡ false ∷ false ∷ false ∷ false ∷ false ∷ []
stale_after_two = refl

-- what was written a time ago at least is stale after the lesser of the two
stale_within_two_and_one : stale_marks (within 2 1) five evenly [] ≡ false ∷ true ∷ true ∷ true ∷ true ∷ []
stale_within_two_and_one = refl

stale_within_one_and_two : stale_marks (within 1 2) five evenly [] ≡ false ∷ true ∷ true ∷ true ∷ true ∷ []
stale_within_one_and_two = refl

written_after_one : stale_marks (written 1) five evenly [] ≡ false ∷ true ∷ true ∷ true ∷ true ∷ []
written_after_one = refl

-- by its last request alone what was written too long ago is not known
written_after_two : stale_marks (written 2) five evenly [] ≡ false ∷ false ∷ false ∷ false ∷ false ∷ []
written_after_two = refl

-- a mark of its own stays
marked_after_two : stale_marks (after 2) five evenly (true ∷ false ∷ true ∷ []) ≡ true ∷ false ∷ true ∷ false ∷ false ∷ []
marked_after_two = refl

-- one object at times that go back
abbrev three : List Object
three = sized 1 ∷ sized 1 ∷ sized 1 ∷ []

abbrev back : List ℕ
back = 5 ∷ 3 ∷ 9 ∷ []

clock_of_back : map (clock back) (numbers_of three) ≡ 5 ∷ 5 ∷ 9 ∷ []
clock_of_back = refl

stale_after_three : stale_marks (after 3) three back [] ≡ false ∷ false ∷ true ∷ []
stale_after_three = refl

stale_after_four : stale_marks (after 4) three back [] ≡ false ∷ false ∷ false ∷ []
stale_after_four = refl

-- the second request is of a new object, and the third of one whose id was given another size
abbrev resized : List Object
resized = sized 2 ∷ sized 3 ∷ sized 2 ∷ []

stale_by_size : stale_marks replaced resized [] [] ≡ false ∷ false ∷ true ∷ []
stale_by_size = refl

-- without replacement both sizes stay
both_sizes_stay : stale_marks (after 0) resized [] [] ≡ false ∷ false ∷ false ∷ []
both_sizes_stay = refl

-- the last request of the id is what tells: here it had the same size
same_size_again : stale_marks replaced (sized 3 ∷ sized 2 ∷ sized 2 ∷ []) [] [] ≡ false ∷ false ∷ false ∷ []
same_size_again = refl

-- a request for another size of its id does not keep an object fresh
same_id_keeps_nothing_fresh : stale_marks (after 3) resized (0 ∷ 2 ∷ 4 ∷ []) [] ≡ false ∷ false ∷ true ∷ []
same_id_keeps_nothing_fresh = refl

-- two objects by turns, one of whose requests only fills
abbrev other : Object
other = record { volume = 0; id = 2; size = 1 }

abbrev turns : List Object
turns = sized 1 ∷ other ∷ sized 1 ∷ sized 1 ∷ other ∷ sized 1 ∷ other ∷ sized 1 ∷ []

abbrev turn_times : List ℕ
turn_times = 0 ∷ 1 ∷ 3 ∷ 4 ∷ 4 ∷ 6 ∷ 9 ∷ 9 ∷ []

abbrev turn_fills : List Bool
turn_fills = false ∷ false ∷ false ∷ true ∷ []

turns_after_two : stale_marks (after 2) turns turn_times turn_fills ≡ false ∷ false ∷ true ∷ true ∷ true ∷ false ∷ true ∷ true ∷ []
turns_after_two = refl

turns_after_three : stale_marks (after 3) turns turn_times turn_fills ≡ false ∷ false ∷ false ∷ true ∷ false ∷ false ∷ true ∷ false ∷ []
turns_after_three = refl
