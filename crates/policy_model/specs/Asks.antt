-- What a policy is asked: the requests of a trace, by the numbers of their objects.
use Rattle.std.specs.Prelude.{ℕ, ◌+◌, List, map, drop, position, slice_index_or}
use Rattle.std.specs.declared.option.Option.{Option}
use Rattle.std.specs.Option.{option_map}
use Rattle.std.specs.List.{position_or_len}
use Rattle.cache_model.specs.declared.objects.Object.{Object}
use Rattle.cache_model.specs.Claim.{same_object}
use Rattle.cache_model.specs.Objects.{objects_of, numbers_of}
use Rattle.cache_model.specs.Claim.{no_object, request_at}

-- a request: its number in the trace, the number and size of its object, and the number of that object's next request
pub record Ask : Type 0 where
  pub request : ℕ
  pub object : ℕ
  pub size : ℕ
  pub next : Option ℕ

-- the number of an object, in order of first appearance
abbrev pub number_of : List Object → Object → ℕ
number_of trace x = position_or_len (same_object x) (objects_of trace)

-- the object of this number
abbrev pub object_numbered : List Object → ℕ → Object
object_numbered trace number = slice_index_or (objects_of trace) number no_object

-- the next request after request t of the same object, if any
abbrev pub next_request : List Object → ℕ → Option ℕ
next_request trace t = option_map (λ k. t + 1 + k) (position (same_object (request_at trace t)) (drop (t + 1) trace))

-- what request t asks
abbrev pub ask_at : List Object → ℕ → Ask
ask_at trace t =
    let x = request_at trace t in
    record { request = t; object = number_of trace x; size = x.size; next = next_request trace t }

-- what the requests ask, in order
abbrev pub asks_of : List Object → List Ask
asks_of trace = map (ask_at trace) (numbers_of trace)
