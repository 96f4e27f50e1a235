-- What is stale, what leaves before a request, and what the requests then ask.
use Rattle.std.specs.Prelude.{ℕ, Bool, false, ◌==◌, if◌then◌else◌, List, [], ◌∷◌, ◌++◌, map, filter, take, slice_index_or, None, Some}
use Rattle.std.specs.declared.option.Option.{Option}
use Rattle.std.specs.List.{last_or}
use Rattle.cache_model.specs.declared.objects.Object.{Object}
use Rattle.cache_model.specs.Claim.{request_at}
use Rattle.cache_model.specs.Objects.{numbers_of}
use Rattle.freshness.specs.Stale.{same_id}
use Rattle.policy_model.specs.Asks.{Ask, ask_at, next_request, number_of}

-- whether request t is stale; past the end of the list none is
abbrev pub is_stale : List Bool → ℕ → Bool
is_stale stale t = slice_index_or stale t false

-- the last of these requests that is of the volume and id of x, if there is one
abbrev pub last_of_id : Object → List Object → Option Object
last_of_id x requests = last_or None (filter (same_id x) requests)

-- the number of this object, if there is one and its size is not that of x
abbrev pub of_other_size : List Object → Object → Option Object → List ℕ
of_other_size trace x None = []
of_other_size trace x (Some y) = if y.size == x.size then [] else number_of trace y ∷ []

-- the number of what request t replaces: the last object of its volume and id before it, if that has another size
abbrev pub replaced : List Object → ℕ → List ℕ
replaced trace t = let x = request_at trace t in of_other_size trace x (last_of_id x (take t trace))

-- the number of the object of request t, if that is stale
abbrev pub own_if_stale : List Bool → List Object → ℕ → List ℕ
own_if_stale stale trace t = if is_stale stale t then (ask_at trace t).object ∷ [] else []

-- the numbers of the objects that leave before request t: its own, if it is stale, and then, if objects are replaced, what it replaces
abbrev pub leaving : List Bool → Bool → List Object → ℕ → List ℕ
leaving stale replace trace t = own_if_stale stale trace t ++ (if replace then replaced trace t else [])

-- the request of this number, if there is one and it is not stale
abbrev pub unless_stale : List Bool → Option ℕ → Option ℕ
unless_stale stale None = None
unless_stale stale (Some t) = if is_stale stale t then None else Some t

-- what request t asks: a next request that is stale is none
abbrev pub fresh_ask : List Bool → List Object → ℕ → Ask
fresh_ask stale trace t = record (ask_at trace t) { next = unless_stale stale (next_request trace t) }

-- what the requests ask, in order
abbrev pub fresh_asks : List Bool → List Object → List Ask
fresh_asks stale trace = map (fresh_ask stale trace) (numbers_of trace)
