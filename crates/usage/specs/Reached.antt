-- A controller that calls have led to, with every job in time.
use Rattle.std.specs.Prelude.{List}
use Rattle.controller.specs.declared.tables.Tables.{Tables}
use Rattle.controller.specs.Book.{book, InTime}
use Rattle.controller.specs.Calls.{Event}
use Rattle.controller.specs.Does.{History}
use Rattle.order.specs.Laws.{Meaning}

pub record InTimeAt (o : Meaning) (t : Tables) : Type 0 where
  pub events : List Event
  pub led_here : History o events t
  pub in_time : InTime (book events)
