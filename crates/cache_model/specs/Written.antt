-- What contents write.
use Rattle.std.specs.Prelude.{ℕ, ◌+◌, nat_le, Bool, not, ◌&&◌, ◌||◌, if◌then◌else◌, List, sum_by}
use Rattle.cache_model.specs.declared.objects.Object.{Object}
use Rattle.cache_model.specs.Claim.{before_request, holds, only_fills, request_at}
use Rattle.cache_model.specs.Objects.{numbers_of}

-- whether request t writes its object: the contents have it after the request, and either they did not have it before or the request only fills
abbrev pub writes : List Bool → List Object → List (List Object) → ℕ → Bool
writes fills trace contents t =
    holds (before_request contents (t + 1)) (request_at trace t)
    && (only_fills fills t || not (holds (before_request contents t) (request_at trace t)))

-- the written bytes: the sizes of the objects of all requests that write, from the warm-up on
abbrev pub written_bytes : ℕ → List Bool → List Object → List (List Object) → ℕ
written_bytes warmup fills trace contents =
    sum_by (λ t. if nat_le warmup t && writes fills trace contents t then (request_at trace t).size else 0) (numbers_of trace)
