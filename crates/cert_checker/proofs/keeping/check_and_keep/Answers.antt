use Rattle.cert_checker.proofs.keeping.check_and_keep.Goals as goal

pub returns-clause-yes : goal.returns-clause-yes
returns-clause-yes g c =
    let k = c.in_ok-verdict.ensures.checked in
    rw (c.finish.ensures, k.2.0, k.2.1) k.3
