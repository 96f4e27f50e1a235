use Rattle.std.proofs.Common.{rules, ◌∙◌, sym, subst}
use Rattle.std.specs.Map.{values_of}
use Rattle.std.proofs.lemmas.Iterator.{YieldsList-from_map}
use Rattle.std.proofs.lemmas.Iterator.Adapters.{option_map_id}
use Rattle.std.proofs.lemmas.Iterator.Consumers.{YieldsList-at, YieldsList-from_filter, YieldsList-from_rest, min_from_yields_List}
use Rattle.cert_checker.specs.Summaries.{StandsFor}
use Rattle.cert_checker.proofs.Unused.{first_unused-least, has_flow}
use Rattle.cert_checker.proofs.checker.Checker.first_unused.Goals as goal

pub returns : goal.returns
returns c = λ h fills trace records st.
    sym (option_map_id _)
    ∙ min_from_yields_List c.map.result _ c.min.ensures.ran
    (YieldsList-from_map _ (λ seen. seen.latest)
    (YieldsList-at c.map.ensures.source
    (YieldsList-from_filter _ has_flow
    (YieldsList-at c.filter.ensures.source (YieldsList-from_rest (values_of c.self.inside.seen.entries) c.values.ensures.rest))
    c.filter.ensures.closure (λ x b q k. search rules)))
    c.map.ensures.closure (λ x r q k. search rules))
    ∙ first_unused-least h fills trace records _ (subst (StandsFor h fills trace records) (sym c.self.view_is) st) c.self.invariant.unique
