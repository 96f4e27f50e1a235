-- What is known of the requests so far, and whether the next is stale by it.
use Rattle.std.specs.Prelude.{◌≡◌, ◌⊎◌, ℕ, ◌+◌, ◌==◌, max, nat_lt, Bool, false, not, ◌&&◌, ◌||◌, if◌then◌else◌, List, [], ◌∷◌, ◌++◌, None, Some}
use Rattle.std.specs.declared.option.Option.{Option}
use Rattle.std.specs.Map.{lookup}
use Rattle.indexmap.specs.IndexMap.{insert_entry}
use Rattle.bit_list.specs.Bits.{HasRoom, bits_of}
use Rattle.cache_model.specs.declared.objects.Object.{Object}
use Rattle.cache_model.specs.Claim.{same_object}
use Rattle.freshness.specs.declared.fresh.Freshness.{Freshness}
use Rattle.freshness.specs.declared.id.Id.{Id}
use Rattle.freshness.specs.declared.stale.StaleRequests.{StaleRequests}
use Rattle.freshness.specs.Stale.{can_end, stale_after}

-- what is noted of requests of which some can be stale: how many had a time below the clock before them, and of each whether it is stale and whether it only fills the cache by its own mark
pub record Staleness : Type 0 where
  pub late : ℕ
  pub stale : List Bool
  pub own : List Bool

-- what the code notes
abbrev pub noted_of : StaleRequests → Staleness
noted_of r = record { late = r.late; stale = bits_of r.stale; own = bits_of r.own }

-- there is room to note one request more
abbrev pub HasRoomForOne : StaleRequests → Type 0
HasRoomForOne r = HasRoom r.stale × HasRoom r.own

-- of no request
abbrev pub nothing_noted : Staleness
nothing_noted = record { late = 0; stale = []; own = [] }

-- of one request more
abbrev pub with_noted : Staleness → Bool → Bool → Bool → Staleness
with_noted n late stale own = record { late = n.late + (if late then 1 else 0); stale = n.stale ++ stale ∷ []; own = n.own ++ own ∷ [] }

-- the clock, which is the greatest time so far; of each object the clock at its last request; of each id the size of its last; what is noted of the requests; and their times
pub record Seen : Type 0 where
  pub clock : ℕ
  pub clocks : List (Object × ℕ)
  pub sizes : List (Id × ℕ)
  pub noted : Staleness
  pub times : List ℕ

-- before the first request
abbrev pub nothing_seen : Seen
nothing_seen = record { clock = 0; clocks = []; sizes = []; noted = nothing_noted; times = [] }

-- the id of an object, whatever its size
abbrev pub id_of : Object → Id
id_of x = record { volume = x.volume; id = x.id }

abbrev pub same_id : Id → Id → Bool
same_id a b = (a.volume == b.volume) && (a.id == b.id)

-- whether more than this time passed since an object was last asked for
abbrev pub is_old : Option ℕ → ℕ → ℕ → Bool
is_old None last clock = false
is_old (Some idle) last clock = nat_lt (last + idle) clock

-- whether an id that was asked for before had another size than this
abbrev pub is_other : ℕ → Option ℕ → Bool
is_other size None = false
is_other size (Some last) = not (last == size)

-- whether a request at this clock is stale, of an object that was last asked for at that clock, if ever, and whose id had another size or not
abbrev pub is_stale_since : Option ℕ → ℕ → Option ℕ → Bool → Bool
is_stale_since idle clock None other = false
is_stale_since idle clock (Some last) other = is_old idle last clock || other

-- whether a request for the object at this time is stale
abbrev pub is_stale : Freshness → Seen → Object → ℕ → Bool
is_stale fresh seen x time =
    can_end fresh
    && is_stale_since (stale_after fresh) (max seen.clock time) (lookup (same_object x) seen.clocks) (fresh.replace && is_other x.size (lookup (same_id (id_of x)) seen.sizes))

-- the sizes with that of one more request, if they are kept
abbrev pub with_size : Bool → List (Id × ℕ) → Object → List (Id × ℕ)
with_size kept sizes x = if kept then insert_entry same_id sizes (id_of x) x.size else sizes

-- what is known after one more request, which only fills by its own mark or doesn't; nothing is noted if none can be stale
abbrev pub with_seen : Freshness → Seen → Object → ℕ → Bool → Seen
with_seen fresh seen x time own =
    if can_end fresh
    then record {
      clock = max seen.clock time;
      clocks = insert_entry same_object seen.clocks x (max seen.clock time);
      sizes = with_size fresh.replace seen.sizes x;
      noted = with_noted seen.noted (nat_lt time seen.clock) (is_stale fresh seen x time) own;
      times = seen.times ++ time ∷ [];
    }
    else seen

-- without memory no more was noted of a request for the object than the size of its id
abbrev pub IsNotedInPart : Freshness → Seen → Seen → Object → Type 0
IsNotedInPart fresh old new x = (new ≡ old) ⊎ (new ≡ record old { sizes = with_size fresh.replace old.sizes x })
