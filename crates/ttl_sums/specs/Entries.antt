-- What is kept of an object, and what a request makes of it.
use Rattle.std.specs.Prelude.{◌≡◌, ℕ, ◌+◌, ◌-◌, ◌*◌, ◌^◌, ◌<◌, ◌≤◌, nat_lt, if◌then◌else◌, List, [], ◌∷◌, ◌++◌, length, slice_index_or, slice_set}
use Rattle.ttl_laws.specs.Runs.{Walk, nothing_walked}
use Rattle.ttl_walk.specs.declared.asked.Asked.{Asked}
use Rattle.ttl_walk.specs.Kept.{StandsFor, latest_clock}
use Rattle.ttl_walk.specs.Requests.{walk_on}
use Rattle.ttl_sums.specs.declared.entry.Entry.{Entry}
use Rattle.ttl_sums.specs.declared.entry.Tops.{Tops}
use Rattle.ttl_sums.specs.declared.request.Request.{Request}

-- a request of an object, at this price since the one before
abbrev pub asked_of : Request → ℕ → Asked
asked_of request priced = record { clock = request.clock; fills = request.fills; gain = request.gain; priced = priced }

-- no request of the object was walked
pub record IsBegun (e : Entry) : Type 0 where
  pub walk : StandsFor e.walk nothing_walked
  pub level : e.walk.level ≡ 2 ^ 126
  pub top : e.walk.top ≡ 0
  pub clock : latest_clock e.walk ≡ 0
  pub paid : e.paid ≡ 0

-- the next request can be walked, after steps of these prices
pub record CanAsk (prices : ℕ) (request : Request) (e : Entry) : Type 0 where
  pub clock : latest_clock e.walk ≤ request.clock
  pub paid : e.paid ≤ prices
  pub priced : e.walk.top + request.weight * (prices - e.paid) ≤ e.walk.level
  pub gain : e.walk.level + request.gain < 2 ^ 128

-- a request was walked, after steps of these prices: it pays for those since the request before
pub record IsAsked (ttl prices : ℕ) (request : Request) (old new : Entry) : Type 0 where
  pub walk : (w : Walk) → StandsFor old.walk w → StandsFor new.walk (walk_on ttl w (asked_of request (request.weight * (prices - old.paid))))
  pub level : new.walk.level + request.weight * (prices - old.paid) ≡ old.walk.level + request.gain
  pub top : new.walk.top ≤ old.walk.top + request.gain
  pub clock : latest_clock new.walk ≡ request.clock
  pub paid : new.paid ≡ prices

-- what stands past the last entry
abbrev pub no_entry : Entry
no_entry = record { walk = record { level = 0; top = 0; starts = [] }; paid = 0 }

-- the entry of the object of this number
abbrev pub entry_at : List Entry → ℕ → Entry
entry_at entries number = slice_index_or entries number no_entry

-- the entries with this one at its number: in place of the one there, or as a new one
abbrev pub with_entry : List Entry → ℕ → Entry → List Entry
with_entry entries number e = if nat_lt number (length entries) then slice_set entries number e else entries ++ e ∷ []

-- the entry is that of the number, or has begun if there is none
pub record WasEntry (entries : List Entry) (number : ℕ) (e : Entry) : Type 0 where
  pub known : number < length entries → e ≡ entry_at entries number
  pub new : length entries ≤ number → IsBegun e

-- the object of the request was asked, whose greatest worth was and is this
pub record AsksNext (ttl prices : ℕ) (request : Request) (old new : List Entry) (tops : Tops) : Type 0 where
  pub before : Entry
  pub after : Entry
  pub was : WasEntry old request.number before
  pub asked : IsAsked ttl prices request before after
  pub entries : new ≡ with_entry old request.number after
  pub top_before : tops.before ≡ before.walk.top
  pub top_after : tops.after ≡ after.walk.top
