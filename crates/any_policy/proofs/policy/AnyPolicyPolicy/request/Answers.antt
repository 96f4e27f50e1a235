use Rattle.any_policy.proofs.policy.AnyPolicyPolicy.request.Goals as goal

pub returns-in-Lru-clause-only_the_request_enters : goal.returns-in-Lru-clause-only_the_request_enters
returns-in-Lru-clause-only_the_request_enters c = rw c.in-Lru.is c.request.ensures.only_the_request_enters

pub returns-in-Lru-clause-none_enters : goal.returns-in-Lru-clause-none_enters
returns-in-Lru-clause-none_enters c = rw c.in-Lru.is c.request.ensures.none_enters

pub returns-in-Fifo-clause-only_the_request_enters : goal.returns-in-Fifo-clause-only_the_request_enters
returns-in-Fifo-clause-only_the_request_enters c = rw c.in-Fifo.is c.request-in-Fifo.ensures.only_the_request_enters

pub returns-in-Fifo-clause-none_enters : goal.returns-in-Fifo-clause-none_enters
returns-in-Fifo-clause-none_enters c = rw c.in-Fifo.is c.request-in-Fifo.ensures.none_enters

pub returns-in-Clock-clause-only_the_request_enters : goal.returns-in-Clock-clause-only_the_request_enters
returns-in-Clock-clause-only_the_request_enters c = rw c.in-Clock.is c.request-in-Clock.ensures.only_the_request_enters

pub returns-in-Lfu-clause-only_the_request_enters : goal.returns-in-Lfu-clause-only_the_request_enters
returns-in-Lfu-clause-only_the_request_enters c = rw c.in-Lfu.is c.request-in-Lfu.ensures.only_the_request_enters

pub returns-in-Lfu-clause-none_enters : goal.returns-in-Lfu-clause-none_enters
returns-in-Lfu-clause-none_enters c = rw c.in-Lfu.is c.request-in-Lfu.ensures.none_enters

pub returns-in-Belady-clause-only_the_request_enters : goal.returns-in-Belady-clause-only_the_request_enters
returns-in-Belady-clause-only_the_request_enters c = rw c.in-Belady.is c.request-in-Belady.ensures.only_the_request_enters

pub returns-in-Belady-clause-none_enters : goal.returns-in-Belady-clause-none_enters
returns-in-Belady-clause-none_enters c = rw c.in-Belady.is c.request-in-Belady.ensures.none_enters

pub returns-in-Sieve-clause-only_the_request_enters : goal.returns-in-Sieve-clause-only_the_request_enters
returns-in-Sieve-clause-only_the_request_enters c = rw c.in-Sieve.is c.request-in-Sieve.ensures.only_the_request_enters

pub returns-in-S3Fifo-clause-only_the_request_enters : goal.returns-in-S3Fifo-clause-only_the_request_enters
returns-in-S3Fifo-clause-only_the_request_enters c = rw c.in-S3Fifo.is c.request-in-S3Fifo.ensures.only_the_request_enters

pub returns-in-Gdsf-clause-only_the_request_enters : goal.returns-in-Gdsf-clause-only_the_request_enters
returns-in-Gdsf-clause-only_the_request_enters c = rw c.in-Gdsf.is c.request-in-Gdsf.ensures.only_the_request_enters

pub returns-in-Gdsf-clause-none_enters : goal.returns-in-Gdsf-clause-none_enters
returns-in-Gdsf-clause-none_enters c = rw c.in-Gdsf.is c.request-in-Gdsf.ensures.none_enters

pub returns-in-Lfuda-clause-only_the_request_enters : goal.returns-in-Lfuda-clause-only_the_request_enters
returns-in-Lfuda-clause-only_the_request_enters c = rw c.in-Lfuda.is c.request-in-Lfuda.ensures.only_the_request_enters

pub returns-in-Lfuda-clause-none_enters : goal.returns-in-Lfuda-clause-none_enters
returns-in-Lfuda-clause-none_enters c = rw c.in-Lfuda.is c.request-in-Lfuda.ensures.none_enters

pub returns-in-Gdsf98-clause-only_the_request_enters : goal.returns-in-Gdsf98-clause-only_the_request_enters
returns-in-Gdsf98-clause-only_the_request_enters c = rw c.in-Gdsf98.is c.request-in-Gdsf98.ensures.only_the_request_enters

pub returns-in-Gdsf98-clause-none_enters : goal.returns-in-Gdsf98-clause-none_enters
returns-in-Gdsf98-clause-none_enters c = rw c.in-Gdsf98.is c.request-in-Gdsf98.ensures.none_enters

pub returns-in-WTinyLfu-clause-only_the_request_enters : goal.returns-in-WTinyLfu-clause-only_the_request_enters
returns-in-WTinyLfu-clause-only_the_request_enters c = rw c.in-WTinyLfu.is c.request-in-WTinyLfu.ensures.only_the_request_enters
