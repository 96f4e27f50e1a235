-- The run of a rule whose objects expire a time after they were written, the ttl.
use Rattle.std.specs.Prelude.{ℕ, ◌+◌, nat_le, Bool, not, ◌&&◌, ◌||◌, if◌then◌else◌, List, [], ◌∷◌, fold, length, map, replicate, set, slice_index_or, take}
use Rattle.std.specs.List.{range_with_len}
use Rattle.cache_model.specs.declared.objects.Object.{Object}
use Rattle.cache_model.specs.Claim.{counts_past, only_fills}
use Rattle.cache_model.specs.Objects.{objects_of}
use Rattle.freshness.specs.Stale.{clock}
use Rattle.policy_model.specs.States.{State, has_entry, members_of}
use Rattle.policy_model.specs.Asks.{Ask}
use Rattle.policy_model.specs.Runs.{Run, objects_held, run_from, run_step}
use Rattle.replay_fresh.specs.Fresh.{fresh_asks, leaving}
use Rattle.replay_fresh.specs.FreshRuns.{let_go_all}

-- what is replayed: a trace with its marks and times, which of its requests are stale, the ttl, whether objects are replaced, and the warm-up
pub record Timed : Type 0 where
  pub trace : List Object
  pub fills : List Bool
  pub times : List ℕ
  pub stale : List Bool
  pub ttl : ℕ
  pub replace : Bool
  pub warmup : ℕ

-- whether what was last written at this clock is too old by now: more than the ttl passed
abbrev pub is_too_old : ℕ → ℕ → ℕ → Bool
is_too_old now written ttl = not (nat_le now (written + ttl))

-- the number of this object, if it is too old
abbrev pub own_if_old : Bool → ℕ → List ℕ
own_if_old old object = if old then object ∷ [] else []

-- a run so far, and beside it of each object, by its number, the clock at which it was last written, and 0 if it never was
pub record TtlRun : Type 0 where
  pub run : Run
  pub clocks : List ℕ

-- a run that has let go of what leaves before a request: its own object, if it is too old, and what leaves with any ttl
abbrev pub without_leaving : Timed → TtlRun → Ask → Run
without_leaving r so_far a =
    let old = is_too_old (clock r.times a.request) (slice_index_or so_far.clocks a.object 0) r.ttl in
    record so_far.run { state = let_go_all (let_go_all so_far.run.state (own_if_old old a.object)) (leaving r.stale r.replace r.trace a.request) }

-- whether a request that finds this state, and leaves that one, writes its object: it is held after, and the request only fills or is no hit
abbrev pub writes_by_rule : Timed → Ask → State → State → Bool
writes_by_rule r a before after = (only_fills r.fills a.request || not (has_entry before.entries a.object)) && has_entry after.entries a.object

-- one more request, which notes the clock if it writes
abbrev pub ttl_step : Timed → TtlRun → Ask → TtlRun
ttl_step r so_far a =
    let before = without_leaving r so_far a in
    let after = run_step (counts_past r.warmup r.fills) before a in
    record {
      run = after;
      clocks = if writes_by_rule r a before.state after.state then set so_far.clocks a.object (clock r.times a.request) else so_far.clocks;
    }

-- the run over the first t requests, from a state that has had none
abbrev pub ttl_run : Timed → State → ℕ → TtlRun
ttl_run r first t = fold (ttl_step r) (record { run = run_from first; clocks = replicate (length (objects_of r.trace)) 0 }) (take t (fresh_asks r.stale r.trace))

-- the objects that a rule holds after t requests
abbrev pub ttl_held_after : Timed → State → ℕ → List Object
ttl_held_after r first t = objects_held r.trace (members_of (ttl_run r first t).run.state.entries)

-- the contents of a rule: before each request, and before anything leaves for it, and after the last
abbrev pub ttl_contents : Timed → State → List (List Object)
ttl_contents r first = map (ttl_held_after r first) (range_with_len 0 (length r.trace + 1))
