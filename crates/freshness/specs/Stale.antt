-- Times of requests, the clock, and which requests are stale.
use Rattle.std.specs.Prelude.{ℕ, ◌+◌, ◌==◌, max, min, nat_lt, Bool, false, not, ◌&&◌, ◌||◌, List, fold, map, take, slice_range, None, Some}
use Rattle.std.specs.declared.option.Option.{Option}
use Rattle.std.specs.List.{list_any, range_with_len}
use Rattle.std.specs.Option.{is_some}
use Rattle.cache_model.specs.declared.objects.Object.{Object}
use Rattle.cache_model.specs.Claim.{is_latest, only_fills, request_at, same_object}
use Rattle.cache_model.specs.Objects.{is_first, numbers_of}
use Rattle.freshness.specs.declared.fresh.Freshness.{Freshness}

-- nothing expires, and nothing is replaced
abbrev pub forever : Freshness
forever = record { idle = None; ttl = None; replace = false }

-- the lesser of two times, of which each is given or not
abbrev pub lesser_of : Option ℕ → Option ℕ → Option ℕ
lesser_of None ttl = ttl
lesser_of (Some idle) None = Some idle
lesser_of (Some idle) (Some ttl) = Some (min idle ttl)

-- after this time an object is stale, whatever a cache did: it was last asked for too long ago, or last written so long ago at least
abbrev pub stale_after : Freshness → Option ℕ
stale_after fresh = lesser_of fresh.idle fresh.ttl

-- a request can be stale
abbrev pub can_end : Freshness → Bool
can_end fresh = is_some (stale_after fresh) || fresh.replace

-- the clock at request t: the greatest time of it and of all before it, so that a time that goes back counts as no time passed
abbrev pub clock : List ℕ → ℕ → ℕ
clock times t = fold max 0 (take (t + 1) times)

-- whether more than this time passed by the clock since request a
abbrev pub is_older : Option ℕ → List ℕ → ℕ → ℕ → Bool
is_older None times a t = false
is_older (Some idle) times a t = nat_lt (clock times a + idle) (clock times t)

-- whether the last request before t of its object is too long ago
abbrev pub has_expired : Option ℕ → List Object → List ℕ → ℕ → Bool
has_expired idle trace times t =
    list_any (λ a. same_object (request_at trace a) (request_at trace t) && is_latest trace t a && is_older idle times a t) (range_with_len 0 t)

-- two requests are of one id, whatever its size
abbrev pub same_id : Object → Object → Bool
same_id x y = (x.volume == y.volume) && (x.id == y.id)

-- no request after a and before t is of the id of request a
abbrev pub is_latest_of_id : List Object → ℕ → ℕ → Bool
is_latest_of_id trace t a = not (list_any (same_id (request_at trace a)) (slice_range trace (a + 1) t))

-- whether the last request before t of its id had another size
abbrev pub is_replaced : List Object → ℕ → Bool
is_replaced trace t =
    list_any (λ a. same_id (request_at trace a) (request_at trace t) && is_latest_of_id trace t a && not ((request_at trace a).size == (request_at trace t).size))
    (range_with_len 0 t)

-- whether request t is stale: its object was asked for before, and has expired since, or its id was given another size
abbrev pub is_stale : Freshness → List Object → List ℕ → ℕ → Bool
is_stale fresh trace times t = not (is_first trace t) && (has_expired (stale_after fresh) trace times t || (fresh.replace && is_replaced trace t))

-- the marks of a trace in which stale requests only fill, whatever their own marks are
abbrev pub stale_marks : Freshness → List Object → List ℕ → List Bool → List Bool
stale_marks fresh trace times fills = map (λ t. only_fills fills t || is_stale fresh trace times t) (numbers_of trace)
