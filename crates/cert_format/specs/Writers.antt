-- What a writer of a certificate keeps.
use Rattle.std.specs.Prelude.{ℕ}
use Rattle.cache_model.specs.declared.certificates.Record.{Record}

-- the version of the text, and the price of the last record, which is 0 before the first
pub record Writer : Type 0 where
  pub version : ℕ
  pub price : ℕ

-- a writer in this version that has written no record
abbrev pub first_writer : ℕ → Writer
first_writer version = record { version = version; price = 0 }

-- the writer after this record
abbrev pub writer_after : Writer → Record → Writer
writer_after writer r = record { version = writer.version; price = r.price }
