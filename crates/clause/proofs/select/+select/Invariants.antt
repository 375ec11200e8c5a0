-- Select, one-select, from and table meet their contracts: they call each other on child records, and the depth that is left falls at each step down.
-- Each member writes its entry, a step a call; along a list goes `parts::list`.
use Prim.Native.Nat.{◌+◌, ◌*◌}
use Rattle.clause.proofs.select.+select.Given as goal

abbrev pub decreases-body : goal.decreases-body
decreases-body l = l.left * 5

abbrev pub decreases-compound : goal.decreases-compound
decreases-compound l = l.left * 5

abbrev pub decreases-cte : goal.decreases-cte
decreases-cte l = l.left * 5

abbrev pub decreases-cte_body : goal.decreases-cte_body
decreases-cte_body l = l.left * 5 + 4

abbrev pub decreases-from_clause : goal.decreases-from_clause
decreases-from_clause l = l.left * 5

abbrev pub decreases-from_given : goal.decreases-from_given
decreases-from_given l = l.left * 5 + 1

abbrev pub decreases-joined : goal.decreases-joined
decreases-joined l = l.left * 5

abbrev pub decreases-one : goal.decreases-one
decreases-one l = l.left * 5 + 4

abbrev pub decreases-one_select : goal.decreases-one_select
decreases-one_select l = l.left * 5

abbrev pub decreases-select : goal.decreases-select
decreases-select l = l.left * 5

abbrev pub decreases-sub : goal.decreases-sub
decreases-sub l = l.left * 5 + 4

abbrev pub decreases-table : goal.decreases-table
decreases-table l = l.left * 5

abbrev pub decreases-table_select : goal.decreases-table_select
decreases-table_select l = l.left * 5 + 4

abbrev pub decreases-with_clause : goal.decreases-with_clause
decreases-with_clause l = l.left * 5

abbrev pub decreases-body-next_select : goal.decreases-body-next_select
decreases-body-next_select l = l.below * 5 + 1

abbrev pub decreases-from_clause-next_table : goal.decreases-from_clause-next_table
decreases-from_clause-next_table l = l.below * 5 + 1

abbrev pub decreases-with_clause-next_cte : goal.decreases-with_clause-next_cte
decreases-with_clause-next_cte l = l.below * 5 + 1
