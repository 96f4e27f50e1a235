-- Stack distances, and the hits at each number of slots, after Mattson, Gecsei, Slutz and Traiger, 1970.
use Rattle.std.specs.Prelude.{ℕ, Bool, false, not, nat_le, if◌then◌else◌, List, ◌∷◌, length, take, reverse, take_while, count_by, Some, None}
use Rattle.std.specs.declared.option.Option.{Option}
use Rattle.std.specs.List.{list_any}
use Rattle.cache_model.specs.declared.objects.Object.{Object}
use Rattle.cache_model.specs.Claim.{only_fills, same_object, request_at}
use Rattle.cache_model.specs.Objects.{objects_of, numbers_of}

-- the requests before request t, the latest first
abbrev pub earlier : List Object → ℕ → List Object
earlier trace t = reverse (take t trace)

-- of such requests those after the latest one for x
abbrev pub since : Object → List Object → List Object
since x requests = take_while (λ y. not (same_object x y)) requests

-- how many different objects the requests are for
abbrev pub different : List Object → ℕ
different requests = length (objects_of requests)

-- the stack distance of request t, if its object was requested before: how many different objects are requested after that last time, up to request t itself
abbrev pub stack_distance : List Object → ℕ → Option ℕ
stack_distance trace t =
    let x = request_at trace t in
    if list_any (same_object x) (earlier trace t) then Some (different (x ∷ since x (earlier trace t))) else None

-- whether there is a distance, of at most this many slots
abbrev pub is_within : ℕ → Option ℕ → Bool
is_within slots None = false
is_within slots (Some distance) = nat_le distance slots

-- the stack distance of request t, if it counts
abbrev pub counted_distance : List Object → List Bool → ℕ → Option ℕ
counted_distance trace fills t = if only_fills fills t then None else stack_distance trace t

-- how many requests that count have a stack distance of at most this many slots
abbrev pub curve_hits : List Object → List Bool → ℕ → ℕ
curve_hits trace fills slots = count_by (λ t. is_within slots (counted_distance trace fills t)) (numbers_of trace)
