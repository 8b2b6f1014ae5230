-- What a plan has to say of all its tasks. Assumes nothing.
use Rattle.std.specs.Prelude.{codes}
use Rattle.plans.specs.declared.plan.Setting.{Setting}
use Rattle.plans.specs.declared.plan.Setting.TheVariants.{Cores, Order}
use Rattle.plans.specs.Statements.{Word}

-- the line that would say it
abbrev pub setting_line : Setting → Word
setting_line Cores = codes "cores NUMBER"
setting_line Order = codes "order fixed"
