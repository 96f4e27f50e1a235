-- The spans of a trace, each from a request to the next of its object.
use Rattle.std.specs.Prelude.{ℕ, ◌-◌, Bool, ◌&&◌, if◌then◌else◌, List, [], map, filter, flat_map}
use Rattle.std.specs.List.{range_with_len}
use Rattle.cache_model.specs.declared.objects.Object.{Object}
use Rattle.cache_model.specs.Claim.{counts_past, is_latest, request_at, same_object}
use Rattle.cache_model.specs.Objects.{numbers_of}
use Rattle.area_sums.specs.Spans.{Span}

-- the last request before t that is of the object of request t: a list of one number, or of none
abbrev pub last_before : List Object → ℕ → List ℕ
last_before trace t =
    filter (λ a. same_object (request_at trace a) (request_at trace t) && is_latest trace t a) (range_with_len 0 t)

-- the span from request a to request t, where objects may enter with a delay, in requests
abbrev pub span_from : ℕ → List Object → ℕ → ℕ → Span
span_from delay trace t a = record { size = (request_at trace t).size; length = t - a - delay }

-- the span that ends at request t: none if t doesn't count, or is the first request of its object
abbrev pub spans_at : ℕ → ℕ → List Bool → List Object → ℕ → List Span
spans_at warmup delay fills trace t =
    if counts_past warmup fills t then map (span_from delay trace t) (last_before trace t) else []

-- the spans of all requests
abbrev pub spans_of : ℕ → ℕ → List Bool → List Object → List Span
spans_of warmup delay fills trace = flat_map (spans_at warmup delay fills trace) (numbers_of trace)
