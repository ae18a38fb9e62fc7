use Rattle.std.proofs.Common.{arith}
use Rattle.geo_decimal.specs.Cutting.{number_of}
use Rattle.geo_decimal.proofs.Sizes.{size_found, size_none}
use Rattle.geo_decimal.proofs.parts.Parts.size.Goals as goal

pub returns-in-Some-clause-found : goal.returns-in-Some-clause-found
returns-in-Some-clause-found c =
    let both = size_found (number_of c.args.self.now) c.in-Some.kept c.fraction_digits.result.now c.rounded.result c.requires.well_formed c.requires.short c.in-Some.ensures.0 c.in-Some.ensures.1 c.fraction_digits.ensures c.rounded.ensures in
    both.0

pub returns-in-Some-clause-none : goal.returns-in-Some-clause-none
returns-in-Some-clause-none c =
    let both = size_found (number_of c.args.self.now) c.in-Some.kept c.fraction_digits.result.now c.rounded.result c.requires.well_formed c.requires.short c.in-Some.ensures.0 c.in-Some.ensures.1 c.fraction_digits.ensures c.rounded.ensures in
    both.1

pub returns-in-None-clause-found : goal.returns-in-None-clause-found
returns-in-None-clause-found c = (size_none (number_of c.args.self.now) c.requires.well_formed c.in-None.ensures, omega arith)
