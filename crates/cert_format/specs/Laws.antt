-- What is proved of the reading of certificates.
use Rattle.std.specs.Prelude.{◌≡◌, List, ℕ, None, IfSome, All}
use Rattle.cache_model.specs.declared.certificates.Header.{Header}
use Rattle.cache_model.specs.declared.certificates.Record.{Record}
use Rattle.cache_model.specs.Certificates.{IsCertificate, IsHeaderInRange, IsRecordInRange}
use Rattle.cache_model.specs.Texts.{cert_text}
use Rattle.cert_format.specs.Readings.{reading, whole}

-- the text of a certificate is read as that certificate
abbrev pub WrittenIsRead : Type 0
WrittenIsRead = (h : Header) (records : List Record) → IsCertificate h records → reading (cert_text h records) ≡ whole h records

-- what is read without a fault is a certificate, and the bytes are its text
pub record IsSpelled (bytes : List ℕ) (h : Header) (records : List Record) : Type 0 where
  pub read : reading bytes ≡ whole h records
  pub certificate : IsCertificate h records
  pub text : bytes ≡ cert_text h records

-- bytes without a fault are the text of a certificate
abbrev pub ReadIsWritten : Type 0
ReadIsWritten = (bytes : List ℕ) → (reading bytes).fault ≡ None → (h : Header) × (records : List Record) × IsSpelled bytes h records

-- what is read before a fault is in range
abbrev pub ReadIsInRange : Type 0
ReadIsInRange = (bytes : List ℕ) → IfSome (reading bytes).header IsHeaderInRange × All IsRecordInRange (reading bytes).records
