-- SIEVE: the entries stand in the order in which they came in, and a hand cuts them in two.
use Rattle.std.specs.Prelude.{ℕ, ◌+◌, ◌*◌, false, if◌then◌else◌, List, [], ◌∷◌, ◌++◌, length, take, drop, None}
use Rattle.policy_model.specs.declared.names.PolicyName.TheVariants.{Sieve}
use Rattle.policy_model.specs.States.{Entry, Stock, State, nothing_beside, used}
use Rattle.policy_model.specs.Steps.{until_fits, touch, fresh_entry, served}

-- the entries that the hand has passed and those ahead of it, each oldest first
pub record Cut : Type 0 where
  pub behind : List Entry
  pub ahead : List Entry

-- if nothing is ahead of the hand, it begins again at the oldest entry
abbrev pub begin_again : List Entry → List Entry → Cut
begin_again behind [] = record { behind = []; ahead = behind }
begin_again behind (e ∷ ahead) = record { behind = behind; ahead = e ∷ ahead }

-- the hand looks at the first entry ahead: marked, it loses its mark and is passed; else it is removed
abbrev pub look_at : List Entry → List Entry → Cut
look_at behind [] = begin_again behind []
look_at behind (e ∷ ahead) = begin_again (if e.mark then behind ++ (record e { mark = false }) ∷ [] else behind) ahead

abbrev pub look : Cut → Cut
look c = look_at c.behind c.ahead

-- the bytes of both
abbrev pub cut_used : Cut → ℕ
cut_used c = used c.behind + used c.ahead

-- the cut of a state
abbrev pub cut_of : State → Cut
cut_of s = record { behind = take s.beside.first s.entries; ahead = drop s.beside.first s.entries }

-- what is kept of a cut
abbrev pub stock_of_cut : Cut → Stock
stock_of_cut c = record { entries = c.behind ++ c.ahead; beside = record nothing_beside { first = length c.behind } }

-- an entry comes in ahead of the hand, last of all
abbrev pub come_in : Entry → Cut → Cut
come_in e c = record { behind = c.behind; ahead = c.ahead ++ e ∷ [] }

-- a hit marks the entry; on a miss the hand looks at one entry after another until the object fits
abbrev pub sieve_after : State → ℕ → ℕ → Stock
sieve_after s object size =
    served s object size
    (record { entries = touch Sieve s.now None object s.entries; beside = s.beside })
    (stock_of_cut (come_in (fresh_entry Sieve s.now object size None) (until_fits look cut_used s.capacity size (2 * length s.entries + 1) (cut_of s))))
