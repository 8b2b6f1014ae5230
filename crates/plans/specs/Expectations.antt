-- What is expected where a line of a plan goes wrong. Assumes nothing.
use Rattle.std.specs.Prelude.{codes}
use Rattle.plans.specs.declared.wanted.Wanted.{Wanted}
use Rattle.plans.specs.declared.wanted.Wanted.TheVariants.{Statement, Keyword, CoresLine, CoreCount, OrderLine, TaskLine, SlotWord, Slot, Table, Period, Deadline, NodeLine, Time, Role, Opening, OpeningNumber, Place, ArcLine, ArcEnds, TaskBeforeNodes, TaskBeforeArcs}
use Rattle.plans.specs.Statements.{Word}

-- as a person is told it
abbrev pub wanted_words : Wanted → Word
wanted_words Statement = codes "a statement"
wanted_words Keyword = codes "a line that begins with cores, order, task, node or arc"
wanted_words CoresLine = codes "cores NUMBER"
wanted_words CoreCount = codes "a number of cores, 1 to 16"
wanted_words OrderLine = codes "order fixed or order open"
wanted_words TaskLine = codes "task NAME slot NUMBER, and its period and deadline or its file"
wanted_words SlotWord = codes "the word slot after the name of the task"
wanted_words Slot = codes "a slot, 0 to 15"
wanted_words Table = codes "period NUMBER deadline NUMBER, or file NAME"
wanted_words Period = codes "a period in ticks, 1 to 1000000"
wanted_words Deadline = codes "a deadline in ticks, 1 to the period"
wanted_words NodeLine = codes "node plain, opening or closing, and its time"
wanted_words Time = codes "a time in ticks, 1 to 65535"
wanted_words Role = codes "the role plain, opening or closing"
wanted_words Opening = codes "of NUMBER, the opening that the node closes"
wanted_words OpeningNumber = codes "the number of an opening"
wanted_words Place = codes "nothing more, or in NUMBER branch NUMBER"
wanted_words ArcLine = codes "arc NUMBER NUMBER"
wanted_words ArcEnds = codes "the numbers of two nodes"
wanted_words TaskBeforeNodes = codes "a task with a period and a deadline before its nodes"
wanted_words TaskBeforeArcs = codes "a task with a period and a deadline before its arcs"
