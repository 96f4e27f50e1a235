-- What a demo shows.
use Rattle.std.specs.Prelude.{◌≡◌, ℕ, List}
use Rattle.cache_rules.specs.Stored.{Requests, all_count}
use Rattle.cache_model.specs.declared.certificates.Header.{Header}
use Rattle.cache_model.specs.declared.certificates.Record.{Record}
use Rattle.policy_model.specs.declared.names.PolicyName.TheVariants.{Lru, Fifo, Clock, Lfu, Belady}
use Rattle.demo_trace.specs.Requests.{demo_requests}
use Rattle.bound_report.specs.declared.demo.DemoFacts.{DemoFacts}
use Rattle.bound_report.specs.declared.demo.PolicyReplays.{PolicyReplays}
use Rattle.bound_report.specs.Demos.{demo_text}
use Rattle.bound_words.specs.declared.plans.BoundSettings.{BoundSettings}
use Rattle.bound_words.specs.declared.plans.DrawSettings.{DrawSettings}
use Rattle.freshness.specs.Seen.{nothing_noted}
use Rattle.trace_any.specs.Readings.{webcache_form}
use Rattle.bound_run.specs.BoundsMade.{IsMade}
use Rattle.run_counts.specs.Countings.{counting_of}
use Rattle.bound_run.specs.Reports.{bounds_report}
use Rattle.bound_run.specs.Replays.{IsReplay}

-- the trace that is drawn, all of whose requests count
abbrev pub trace_drawn : DrawSettings → Requests
trace_drawn drawing = all_count (demo_requests drawing.seed drawing.requests drawing.objects)

-- the replays of a trace by each policy, all of whose requests count
pub record AreReplays (capacity : ℕ) (trace : Requests) (replays : PolicyReplays) : Type 0 where
  pub lru : IsReplay Lru capacity 0 trace replays.lru
  pub fifo : IsReplay Fifo capacity 0 trace replays.fifo
  pub clock : IsReplay Clock capacity 0 trace replays.clock
  pub lfu : IsReplay Lfu capacity 0 trace replays.lfu
  pub belady : IsReplay Belady capacity 0 trace replays.belady

-- what is asked of a demo, as its report states it
abbrev pub demo_facts : DrawSettings → BoundSettings → DemoFacts
demo_facts drawing asked = record { seed = drawing.seed; requests = drawing.requests; objects = drawing.objects; capacity = asked.terms.capacity }

-- the text is the report of a demo: the bounds of a certificate that is made of the trace, that a check finds it valid, and the replays
pub record IsDemoText (drawing : DrawSettings) (asked : BoundSettings) (text : List ℕ) : Type 0 where
  pub price : ℕ
  pub header : Header
  pub records : List Record
  pub made : IsMade asked (trace_drawn drawing) price header records
  pub replays : PolicyReplays
  pub replayed : AreReplays asked.terms.capacity (trace_drawn drawing) replays
  pub text_is : text ≡ demo_text (demo_facts drawing asked) (bounds_report (counting_of webcache_form header (trace_drawn drawing) nothing_noted) asked (trace_drawn drawing) 0 price header records) replays
