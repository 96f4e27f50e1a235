-- What an upgrade makes of a certificate.
use Rattle.std.specs.Prelude.{◌≡◌, ◌↔◌, ℕ, ◌+◌, ◌≤◌, Bool, List, [], length, None, Some, IfSome}
use Rattle.std.specs.declared.option.Option.{Option}
use Rattle.bound_io.specs.Devices.{Device}
use Rattle.cache_model.specs.declared.objects.Object.{Object}
use Rattle.cache_model.specs.declared.certificates.Header.{Header}
use Rattle.cache_model.specs.declared.certificates.Record.{Record}
use Rattle.cache_model.specs.declared.version.TheConstants.{SHORT_VERSION}
use Rattle.cache_model.specs.Certificates.{IsCertificate, IsValid}
use Rattle.cache_model.specs.Texts.{cert_text}
use Rattle.cert_format.specs.Readings.{bytes_through, reading}
use Rattle.bound_report.specs.Upgrades.{upgrade_text}

-- all that the source had left was read: the text of a certificate, if its bytes are known
pub record IsRead (source : Device) (h : Header) (records : List Record) : Type 0 where
  pub certificate : IsCertificate h records
  pub text : IfSome source.before (λ bytes. bytes ≡ cert_text h records)
  pub nothing_left : IfSome source.before (λ bytes. source.after ≡ Some [])

-- the header, in the second version
abbrev pub upgraded : Header → Header
upgraded h = record h { version = SHORT_VERSION }

-- all that the source had left was read, and written in the second version
pub record IsRewritten (source : Device) (h : Header) (written : List ℕ) : Type 0 where
  pub records : List Record
  pub read : IsRead source h records
  pub text : written ≡ cert_text (upgraded h) records

-- the certificate and the report of an upgrade of all that the source had left, which is valid for the same traces
pub record IsUpgraded (source : Device) (cert report : List ℕ) : Type 0 where
  pub header : Header
  pub records : List Record
  pub read : IsRead source header records
  pub cert_is : cert ≡ cert_text (upgraded header) records
  pub report_is : report ≡ upgrade_text header.requests
  pub same_traces : (trace : List Object) (fills : List Bool) → IsValid trace fills header records ↔ IsValid trace fills (upgraded header) records

-- the source has lost at most the bytes through this line of a certificate and a buffer of bytes more, if they are known
abbrev pub IsNearLineOf : ℕ → Device → Type 0
IsNearLineOf line source = IfSome source.before (λ text. IfSome source.after (λ left. length text ≤ length left + bytes_through line text + 65536))

-- the bytes are known, and are the text of a certificate
abbrev pub IsGoodCertificate : Option (List ℕ) → Type 0
IsGoodCertificate None = ⊥
IsGoodCertificate (Some bytes) = (reading bytes).fault ≡ None
