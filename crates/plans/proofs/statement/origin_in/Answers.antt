use Rattle.std.proofs.Common.{rules}
use Rattle.plans.specs.Statements.{texts, told_table, TableSaid}
use Rattle.plans.proofs.Saying.{unheard, times_told, table_untold, period_untold, deadline_untold}
use Rattle.plans.proofs.statement.origin_in.Goals as goal

pub returns-in_err-period-in-period : goal.returns-in_err-period-in-period
returns-in_err-period-in-period c =
    unheard told_table (TableSaid (texts c.args.words.now)) c.from_residual.result (search rules)
    (period_untold c.args.words.now (search rules) (search rules))

pub returns-in_err-deadline-in-period : goal.returns-in_err-deadline-in-period
returns-in_err-deadline-in-period c =
    unheard told_table (TableSaid (texts c.args.words.now)) c.from_residual-in_err-deadline-in-period.result (search rules)
    (deadline_untold c.args.words.now (search rules) (search rules))

pub returns-in_ok-deadline-in-period : goal.returns-in_ok-deadline-in-period
returns-in_ok-deadline-in-period c =
    times_told c.args.words.now _ _ (search rules) c.in-period.is-period c.in-period.is-deadline (search rules) (search rules)

pub returns-in_default : goal.returns-in_default
returns-in_default c = table_untold c.args.words.now (search rules) (search rules)
