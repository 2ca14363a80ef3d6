-- Values are tables exactly where they are the items of a list of tables, which then has as many.
use Rattle.std.proofs.Common.{arith}
use Rattle.std.proofs.lemmas.Bool.Decides.{nat_tests}
use Rattle.scenario.proofs.Items.{tables_of_values, values_of_tables}
use Rattle.scenario.proofs.section.are_few_tables.Goals as goal

pub returns-then-values-most : goal.returns-then-values-most
returns-then-values-most c = (
  λ true. let found = tables_of_values c.args.values.now (c.are_tables.ensures.0 true) in (found.0, found.1, omega (arith, found.2)),
  λ found. c.are_tables.ensures.1 (values_of_tables c.args.values.now found.0 found.1).0,
)

pub returns-else-values-most : goal.returns-else-values-most
returns-else-values-most c = (
  λ true. absurd (grind (arith, nat_tests)),
  λ found. let as_many = (values_of_tables c.args.values.now found.0 found.1).1 in let few = found.2 in absurd (omega (arith, as_many, few)),
)
