-- What is proved of the lines of a demo.
use Rattle.std.specs.Prelude.{◌≡◌, ◌≤◌, ◌^◌, List, [], length, All, None}
use Rattle.cache_model.specs.declared.objects.Object.{Object}
use Rattle.trace_any.specs.Readings.{Reading, full_limits, nothing_read, reading, webcache_form}
use Rattle.demo_trace.specs.Lines.{IsWritable, webcache_text}

-- the reading of a text that asks for these requests, one a line, without marks, and for nothing else
abbrev pub read_whole : List Object → Reading
read_whole requests = record {
  requests = requests;
  fills = [];
  seen = nothing_read.seen;
  volumes = [];
  dropped = 0;
  lines = length requests;
  bytes = length (webcache_text requests);
  refused = None;
}

-- the text of requests is read as these requests: no line is dropped or refused, and no limit is passed
abbrev pub WrittenIsRead : Type 0
WrittenIsRead = (requests : List Object) → length requests ≤ 2 ^ 25 → All IsWritable requests → reading webcache_form full_limits (webcache_text requests) ≡ read_whole requests
