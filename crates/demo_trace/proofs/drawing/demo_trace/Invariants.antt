use Rattle.std.proofs.Common.{◌≡◌, ◌-◌, [], ◌++◌, length, false}
use Rattle.std.specs.Prelude.{All}
use Rattle.demo_trace.specs.Lines.{IsWritable}
use Rattle.demo_trace.specs.Requests.{demo_requests, requests_drawn}
use Rattle.demo_trace.proofs.drawing.demo_trace.Given as goal

abbrev pub invariant-loop : goal.invariant-loop
invariant-loop l = record {
  fills : l.trace.requests.fills ≡ [];
  marks : l.trace.marks ≡ false;
  drawn : l.trace.requests.objects ++ requests_drawn l.objects (l.requests - l.counter) l.generator ≡ demo_requests l.seed l.requests l.objects;
  count : length l.trace.requests.objects ≡ l.counter;
  writable : All IsWritable l.trace.requests.objects;
}
