-- What contents write whose objects expire a time after they were written.
use Rattle.std.specs.Prelude.{ℕ, nat_le, Bool, ◌&&◌, if◌then◌else◌, List, sum_by}
use Rattle.cache_model.specs.declared.objects.Object.{Object}
use Rattle.cache_model.specs.Claim.{request_at}
use Rattle.cache_model.specs.Objects.{numbers_of}
use Rattle.ttl_laws.specs.Fresh.{writes_anew, written_at}

-- whether request t writes its object: the contents have it after the request, which is no fresh hit
abbrev pub writes_own : List Bool → List Object → List ℕ → ℕ → List (List Object) → ℕ → Bool
writes_own fills trace times ttl contents t =
    let x = request_at trace t in
    writes_anew fills times ttl contents t x (written_at fills trace times ttl contents t x)

-- the written bytes: the sizes of the objects of all requests that write, from the warm-up on
abbrev pub written_with_ttl : ℕ → List Bool → List Object → List ℕ → ℕ → List (List Object) → ℕ
written_with_ttl warmup fills trace times ttl contents =
    sum_by (λ t. if nat_le warmup t && writes_own fills trace times ttl contents t then (request_at trace t).size else 0) (numbers_of trace)
