-- Distances in bytes, and the hits within a capacity, after Mattson, Gecsei, Slutz and Traiger, 1970.
use Rattle.std.specs.Prelude.{ℕ, Bool, ◌&&◌, nat_le, if◌then◌else◌, List, ◌∷◌, filter, count_by, sum_by, Some, None}
use Rattle.std.specs.declared.option.Option.{Option}
use Rattle.std.specs.List.{list_any}
use Rattle.cache_model.specs.declared.objects.Object.{Object}
use Rattle.cache_model.specs.Claim.{counts_past, same_object, request_at, total_size}
use Rattle.cache_model.specs.Objects.{objects_of, numbers_of}
use Rattle.stack_curve.specs.Distances.{earlier, since, is_within}

-- whether an object is no larger than the capacity
abbrev pub fits_in : ℕ → Object → Bool
fits_in capacity x = nat_le x.size capacity

-- the sizes of the different objects that the requests are for, summed, but for those larger than the capacity
abbrev pub bytes_asked : ℕ → List Object → ℕ
bytes_asked capacity requests = total_size (filter (fits_in capacity) (objects_of requests))

-- the distance in bytes of request t, if its object was requested before and is no larger than the capacity:
-- the bytes asked for after that last time, up to request t itself
abbrev pub byte_distance : ℕ → List Object → ℕ → Option ℕ
byte_distance capacity trace t =
    let x = request_at trace t in
    if fits_in capacity x && list_any (same_object x) (earlier trace t) then Some (bytes_asked capacity (x ∷ since x (earlier trace t))) else None

-- whether request t has a distance in bytes, of at most the capacity
abbrev pub is_hit : ℕ → List Object → ℕ → Bool
is_hit capacity trace t = is_within capacity (byte_distance capacity trace t)

-- whether such a request counts
abbrev pub is_counted_hit : ℕ → ℕ → List Object → List Bool → ℕ → Bool
is_counted_hit capacity warmup trace fills t = counts_past warmup fills t && is_hit capacity trace t

-- how many requests that count have a distance in bytes of at most the capacity
abbrev pub hits_within : ℕ → ℕ → List Object → List Bool → ℕ
hits_within capacity warmup trace fills = count_by (is_counted_hit capacity warmup trace fills) (numbers_of trace)

-- the sizes of their objects, summed
abbrev pub bytes_within : ℕ → ℕ → List Object → List Bool → ℕ
bytes_within capacity warmup trace fills =
    sum_by (λ t. if is_counted_hit capacity warmup trace fills t then (request_at trace t).size else 0) (numbers_of trace)
