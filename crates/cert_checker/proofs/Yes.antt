-- What a checker's yes says.
use Rattle.std.proofs.Common.{◌≡◌, ◌∙◌, ℕ, sym, ap, Bool, List, length, None}
use Rattle.std.specs.declared.option.Option.{Option}
use Rattle.cache_model.specs.declared.objects.Object.{Object}
use Rattle.cache_model.specs.declared.certificates.Header.{Header}
use Rattle.cache_model.specs.declared.certificates.Record.{Record}
use Rattle.cache_model.specs.Objects.{objects_of}
use Rattle.cache_model.specs.Certificates.{IsCertificate, IsValid}
use Rattle.cache_model.proofs.Headline.{exact_is_least, valid_bounds}
use Rattle.cert_checker.specs.declared.verdict.Counted.{Counted}
use Rattle.cert_checker.specs.declared.verdict.Verdict.{Verdict}
use Rattle.cert_checker.specs.Answers.{IsYes}
use Rattle.cert_checker.specs.Rules.{counted_of, end_fault, end_rules, first_some, first_unused}
use Rattle.cert_checker.specs.Summaries.{StandsFor, Summary}
use Rattle.cert_checker.proofs.Validity.{IsValid-faultless}

module _ (h : Header) (fills : List Bool) (trace : List Object) (records : List Record) (s : Summary) (st : StandsFor h fills trace records s)
    (unused : Option ℕ) (first : unused ≡ first_unused trace records) (counted : Counted) (counts : counted ≡ counted_of h fills trace records) where
  -- the rules of the code are those of the lists
  pub end_fault-is : first_some (end_rules s.header unused counted) ≡ end_fault h fills trace records
  end_fault-is =
      ap (λ g. first_some (end_rules g unused counted)) st.header
      ∙ ap (λ u. first_some (end_rules h u counted)) first
      ∙ ap (λ c. first_some (end_rules h (first_unused trace records) c)) counts

  module _ (all : s.sums.steps ≡ s.header.requests) (passes : first_some (end_rules s.header unused counted) ≡ None) where
    many : h.requests ≡ length trace
    many = ap (λ (g : Header). g.requests) (sym st.header) ∙ sym all ∙ st.sums.steps

    certificate : IsCertificate h records
    certificate = record { header = st.input.header_in_range; count = st.input.one_record_each ∙ sym many; each = st.input.records_in_range }

    valid : IsValid trace fills h records
    valid = IsValid-faultless h fills trace records certificate many st.no_fault (sym end_fault-is ∙ passes)

    pub yes-is : (verdict : Verdict) → verdict.header ≡ s.header → verdict.objects ≡ length (objects_of trace) → IsYes h fills trace records verdict
    yes-is verdict header objects = record {
      no_fault = sym end_fault-is ∙ passes;
      header = header ∙ st.header;
      objects = objects;
      valid = valid;
      bounds_every_policy = valid_bounds trace fills h records valid;
      least = exact_is_least trace fills h records valid;
    }
