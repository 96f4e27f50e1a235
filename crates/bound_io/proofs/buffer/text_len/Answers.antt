use Rattle.bound_io.proofs.Texts.{text_len_is}
use Rattle.bound_io.proofs.buffer.text_len.Goals as goal

pub returns : goal.returns
returns c = rw (c.unwrap_or.ensures) (text_len_is c.args.bytes.now c.memchr.result c.memchr.ensures)
