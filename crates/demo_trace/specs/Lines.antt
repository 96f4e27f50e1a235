-- Requests as the lines of a webcache trace.
use Rattle.std.specs.Prelude.{◌≡◌, ℕ, ◌+◌, ◌^◌, ◌<◌, List, [], ◌∷◌, decimal}
use Rattle.cache_model.specs.declared.objects.Object.{Object}
use Rattle.cache_model.specs.Texts.{entry, text_of}
use Rattle.cache_rules.specs.Stored.{IsSized}

-- a number, which stands for the time, and the id and the size of the object
abbrev pub webcache_line : ℕ → Object → List ℕ
webcache_line number x = entry (entry (decimal number) x.id) x.size

-- the lines of requests, the first of which has this number
abbrev pub lines_from : ℕ → List Object → List (List ℕ)
lines_from number [] = []
lines_from number (x ∷ xs) = webcache_line number x ∷ lines_from (number + 1) xs

-- the text of requests, which are numbered from 1
abbrev pub webcache_text : List Object → List ℕ
webcache_text requests = text_of (lines_from 1 requests)

-- a line can say which object this is: it is of volume 0, and its numbers are in the ranges of a line
pub record IsWritable (x : Object) : Type 0 where
  pub volume : x.volume ≡ 0
  pub id : x.id < 2 ^ 64
  pub size : IsSized x
