use Rattle.imdf_refs.proofs.references.reference_findings.Goals as goal

pub returns : goal.returns
returns c =
    let same = c.in_ok-findings.ensures in
    record {
      rises = c.in_order.ensures.rises;
      only = λ x h. (same x).0 (c.in_order.ensures.only x h);
      whole = λ x h. c.in_order.ensures.whole x ((same x).1 h);
    }
