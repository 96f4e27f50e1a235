-- The first cause at small traces, computed.
use Rattle.std.proofs.Common.{◌≡◌, ℕ, true, false, Bool, List, [], ◌∷◌, refl, None, Some}
use Rattle.cache_model.specs.declared.objects.Object.{Object}
use Rattle.hit_judge.specs.declared.causes.Impossible.TheVariants.{First, Size, Stale, Load}
use Rattle.hit_judge.specs.Causes.{first_cause}

abbrev object : ℕ → ℕ → Object
object id size = record { volume = 0; id = id; size = size }

-- A(2) B(3) A(2) B(3) C(1)
abbrev trace : List Object
trace = object 1 2 ∷ object 2 3 ∷ object 1 2 ∷ object 2 3 ∷ object 3 1 ∷ []

-- the second request of A and B is flagged
abbrev both : List Bool
both = false ∷ false ∷ true ∷ true ∷ []

no_cause : first_cause 5 trace [] both ≡ None
no_cause = refl

-- A and B are held over step 1, and over no earlier one
one_byte_too_small : first_cause 4 trace [] both ≡ Some (Load 1 5)
one_byte_too_small = refl

b_is_too_large : first_cause 2 trace [] both ≡ Some (Size 3 3)
b_is_too_large = refl

-- of two requests the earlier one
a_is_too_large : first_cause 1 trace [] both ≡ Some (Size 2 2)
a_is_too_large = refl

never_asked_before : first_cause 5 trace [] (false ∷ true ∷ []) ≡ Some (First 1)
never_asked_before = refl

-- if both, the size
first_and_too_large : first_cause 2 trace [] (false ∷ true ∷ []) ≡ Some (Size 1 3)
first_and_too_large = refl

-- a request goes before a step
c_before_the_step : first_cause 4 trace [] (false ∷ false ∷ true ∷ true ∷ true ∷ []) ≡ Some (First 4)
c_before_the_step = refl

-- a size of the capacity fits
of_the_capacity : first_cause 3 trace [] (false ∷ false ∷ false ∷ true ∷ []) ≡ None
of_the_capacity = refl

no_flags : first_cause 0 trace [] [] ≡ None
no_flags = refl

-- the second request of B is stale
abbrev second_b : List Bool
second_b = false ∷ false ∷ false ∷ true ∷ []

b_is_stale : first_cause 5 trace second_b both ≡ Some (Stale 3)
b_is_stale = refl

-- if both, the size
stale_and_too_large : first_cause 2 trace second_b second_b ≡ Some (Size 3 3)
stale_and_too_large = refl

-- of two requests the earlier one, whichever its cause
a_is_too_large_before_b : first_cause 1 trace second_b both ≡ Some (Size 2 2)
a_is_too_large_before_b = refl

-- if both, the first
first_and_stale : first_cause 5 trace (false ∷ true ∷ []) (false ∷ true ∷ []) ≡ Some (First 1)
first_and_stale = refl

-- a stale request goes before an earlier step
stale_before_the_step : first_cause 4 trace second_b both ≡ Some (Stale 3)
stale_before_the_step = refl

-- a stale request without a flag is no cause
stale_without_flag : first_cause 5 trace second_b (false ∷ false ∷ true ∷ []) ≡ None
stale_without_flag = refl
