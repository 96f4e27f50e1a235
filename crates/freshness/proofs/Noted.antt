-- What is noted of a request, part by part.
use Rattle.std.proofs.Common.{◌≡◌, ℕ, ◌+◌, max, nat_lt, Bool, true, ◌&&◌, if◌then◌else◌, List, [], ◌∷◌, ◌++◌, Option, refl}
use Rattle.std.specs.Map.{lookup}
use Rattle.indexmap.specs.IndexMap.{insert_entry}
use Rattle.cache_model.specs.declared.objects.Object.{Object}
use Rattle.cache_model.specs.Claim.{same_object}
use Rattle.freshness.specs.declared.fresh.Freshness.{Freshness}
use Rattle.freshness.specs.declared.id.Id.{Id}
use Rattle.freshness.specs.Stale.{can_end, stale_after}
use Rattle.freshness.specs.Seen.{Seen, is_other, is_stale, is_stale_since, id_of, same_id, with_seen, with_size}

-- a request that can be stale, by what was found of its object and of its id
pub is_stale-found : (fresh : Freshness) (seen : Seen) (x : Object) (time clock : ℕ) (last : Option ℕ) (other stale : Bool) → can_end fresh ≡ true → clock ≡ max seen.clock time → last ≡ lookup (same_object x) seen.clocks
    → other ≡ (fresh.replace && is_other x.size (lookup (same_id (id_of x)) seen.sizes)) → stale ≡ is_stale_since (stale_after fresh) clock last other → stale ≡ is_stale fresh seen x time
is_stale-found fresh seen x time clock last other stale can clock_is last_is other_is stale_is = rw (stale_is, clock_is, last_is, other_is, can) refl

-- and what is known after it
pub seen-noted : (fresh : Freshness) (seen : Seen) (x : Object) (time clock : ℕ) (stale own : Bool) (clocks : List (Object × ℕ)) (sizes : List (Id × ℕ)) (late : ℕ) (stales owns : List Bool) (times : List ℕ) → can_end fresh ≡ true
    → clock ≡ max seen.clock time → clocks ≡ insert_entry same_object seen.clocks x clock → sizes ≡ with_size fresh.replace seen.sizes x → stale ≡ is_stale fresh seen x time
    → late ≡ seen.noted.late + (if nat_lt time seen.clock then 1 else 0) → stales ≡ seen.noted.stale ++ stale ∷ [] → owns ≡ seen.noted.own ++ own ∷ [] → times ≡ seen.times ++ time ∷ []
    → (record { clock = clock; clocks = clocks; sizes = sizes; noted = record { late = late; stale = stales; own = owns }; times = times }) ≡ with_seen fresh seen x time own
seen-noted fresh seen x time clock stale own clocks sizes late stales owns times can clock_is clocks_are sizes_are stale_is late_is stales_are owns_are times_are = rw (clocks_are, sizes_are, late_is, stales_are, owns_are, times_are, stale_is, clock_is, can) refl
