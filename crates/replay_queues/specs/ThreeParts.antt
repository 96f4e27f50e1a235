-- A small queue, a main queue and ghosts, one after another in a line.
use Rattle.std.specs.Prelude.{◌≡◌, ℕ, ◌+◌, ◌<◌, ◌==◌, Bool, true, false, ◌||◌, if◌then◌else◌, List, [], ◌∷◌, length, drop, slice_index}
use Rattle.policy_model.specs.States.{Member, has_member, members_size}
use Rattle.policy_model.specs.Leaving.{without_member}
use Rattle.replay_queues.specs.Lines.{Lined, before_object, from_object, first_of}

-- the members of each, from its front, a number above that of each object that may be one, and how many there may be
pub record Parted : Type 0 where
  pub objects : ℕ
  pub small : List Member
  pub main : List Member
  pub ghosts : List Member
  pub room : ℕ

-- whether the object is in one of the three
abbrev pub has_part : Parted → ℕ → Bool
has_part q k = has_member q.small k || (has_member q.main k || has_member q.ghosts k)

-- without the object
abbrev pub parts_without : ℕ → Parted → Parted
parts_without k q = record { objects = q.objects; small = without_member k q.small; main = without_member k q.main; ghosts = without_member k q.ghosts; room = q.room }

-- the bytes of all
abbrev pub parts_size : Parted → ℕ
parts_size q = members_size q.small + (members_size q.main + members_size q.ghosts)

-- how many there are
abbrev pub parts_count : Parted → ℕ
parts_count q = length q.small + (length q.main + length q.ghosts)

-- there is room for one more
abbrev pub HasPlace : Parted → Type 0
HasPlace q = parts_count q < q.room

-- whether there is no member
abbrev pub no_members : List Member → Bool
no_members [] = true
no_members (m ∷ rest) = false

-- a line cut at the first of the main queue and at the first ghost
abbrev pub parts_of : Lined → ℕ → ℕ → Parted
parts_of l main ghosts = record {
  objects = l.objects;
  small = before_object main l.members;
  main = before_object ghosts (from_object main l.members);
  ghosts = from_object ghosts (from_object main l.members);
  room = l.room;
}

-- no object is there twice
abbrev pub Once : List Member → Type 0
Once [] = Unit {0}
Once (m ∷ rest) = (has_member rest m.object ≡ false) × Once rest

-- where a part that begins at `first` begins once an object has left
abbrev pub begin_but : Lined → ℕ → ℕ → ℕ
begin_but l first k = if first == k then first_of l.objects (drop 1 (from_object k l.members)) else first

-- each part begins at its first, and the bytes tell which objects are in the small one
pub record IsParts (l : Lined) (main ghosts : ℕ) (places : List ℕ) : Type 0 where
  pub once : Once l.members
  pub none_apart : has_member l.members l.objects ≡ false
  pub main_is : main ≡ first_of l.objects (from_object main l.members)
  pub ghosts_is : ghosts ≡ first_of l.objects (from_object ghosts (from_object main l.members))
  pub each_object : length places ≡ l.objects
  pub small_is : (k : ℕ) → (slice_index places k == 1) ≡ has_member (before_object main l.members) k
