-- The definitions at a small trace, computed.
use Rattle.std.proofs.Common.{◌≡◌, true, false, Bool, List, [], ◌∷◌, map, refl}
use Rattle.cache_model.specs.declared.objects.Object.{Object}
use Rattle.cache_model.specs.Claim.{before_request, holds, request_at}
use Rattle.cache_model.specs.Objects.{numbers_of}
use Rattle.write_laws.specs.Claims.{least_written}
use Rattle.cache_model.specs.Written.{writes, written_bytes}

-- objects of 2 bytes and of 1
abbrev large : Object
large = record { volume = 0; id = 1; size = 2 }

abbrev small : Object
small = record { volume = 0; id = 2; size = 1 }

abbrev trace : List Object
trace = large ∷ small ∷ large ∷ small ∷ large ∷ []

-- all but the first request of each
abbrev flags : List Bool
flags = false ∷ false ∷ true ∷ true ∷ true ∷ []

-- the third request only fills
abbrev fills : List Bool
fills = false ∷ false ∷ true ∷ []

-- each first request must write, and that which only fills
least_with_a_fill : least_written 3 0 fills trace flags ≡ 5
least_with_a_fill = refl

least_without_fills : least_written 3 0 [] trace flags ≡ 3
least_without_fills = refl

-- what is written in the warm-up is left out
least_past_one_request : least_written 3 1 fills trace flags ≡ 3
least_past_one_request = refl

least_past_two_requests : least_written 3 2 fills trace flags ≡ 2
least_past_two_requests = refl

least_past_three_requests : least_written 3 3 fills trace flags ≡ 0
least_past_three_requests = refl

-- what only fills need not write if the next request is not flagged
least_until_the_last : least_written 3 0 fills trace (false ∷ false ∷ true ∷ true ∷ []) ≡ 3
least_until_the_last = refl

-- a request that is not flagged must write if the next one is, though an earlier one wrote
least_of_the_last : least_written 3 0 [] trace (false ∷ false ∷ false ∷ false ∷ true ∷ []) ≡ 2
least_of_the_last = refl

-- an object that is larger than the capacity writes nothing
least_of_what_fits : least_written 1 0 fills trace flags ≡ 1
least_of_what_fits = refl

-- contents that hit exactly at the flags
abbrev contents : List (List Object)
contents = [] ∷ (large ∷ []) ∷ (large ∷ small ∷ []) ∷ (small ∷ large ∷ []) ∷ (large ∷ []) ∷ [] ∷ []

hit_at_the_flags : map (λ t. holds (before_request contents t) (request_at trace t)) (numbers_of trace) ≡ flags
hit_at_the_flags = refl

requests_that_write : map (writes fills trace contents) (numbers_of trace) ≡ true ∷ true ∷ true ∷ false ∷ false ∷ []
requests_that_write = refl

written_with_a_fill : written_bytes 0 fills trace contents ≡ 5
written_with_a_fill = refl

written_without_fills : written_bytes 0 [] trace contents ≡ 3
written_without_fills = refl

written_past_one_request : written_bytes 1 fills trace contents ≡ 3
written_past_one_request = refl

written_past_three_requests : written_bytes 3 fills trace contents ≡ 0
written_past_three_requests = refl

-- contents that hit at the third request alone, and let the small object in for nothing
abbrev wasteful : List (List Object)
wasteful = [] ∷ (large ∷ []) ∷ (large ∷ small ∷ []) ∷ [] ∷ [] ∷ [] ∷ []

third_alone : map (λ t. holds (before_request wasteful t) (request_at trace t)) (numbers_of trace) ≡ false ∷ false ∷ true ∷ false ∷ false ∷ []
third_alone = refl

one_byte_more : written_bytes 0 fills trace wasteful ≡ 3
one_byte_more = refl

least_of_the_third : least_written 3 0 fills trace (false ∷ false ∷ true ∷ []) ≡ 2
least_of_the_third = refl

-- contents that hit more than is flagged may write less: here the large object stays, though the last request alone is flagged
abbrev kept_on : List (List Object)
kept_on = [] ∷ (large ∷ []) ∷ (large ∷ []) ∷ (large ∷ []) ∷ (large ∷ []) ∷ [] ∷ []

third_and_last : map (λ t. holds (before_request kept_on t) (request_at trace t)) (numbers_of trace) ≡ false ∷ false ∷ true ∷ false ∷ true ∷ []
third_and_last = refl

kept_past_two_requests : written_bytes 2 [] trace kept_on ≡ 0
kept_past_two_requests = refl

least_of_the_last_past_two : least_written 3 2 [] trace (false ∷ false ∷ false ∷ false ∷ true ∷ []) ≡ 2
least_of_the_last_past_two = refl
