use Rattle.std.proofs.Common.{refl, inl, inr, arith}
use Rattle.std.proofs.lemmas.Result.{err_from_is_err_and}
use Rattle.controller.proofs.Equal.{tables_equal}
use Rattle.controller.proofs.tables.Tables.close_tick.Goals as goal

pub returns-in_err-spots : goal.returns-in_err-spots
returns-in_err-spots c =
    let p = err_from_is_err_and c.from_residual.result c.from_residual.ensures.1 in
    rw (p.1, p.2) (λ o. record { away = inl (c.in_err-spots.ensures o); unchanged = refl })

pub returns-in-Some : goal.returns-in-Some
returns-in-Some c =
    λ o. record {
      away = inr (
        (c.in_ok-spots.spots, c.in_ok-spots.ensures.1),
        inr (
          omega arith,
          inl (
            c.in-Some.core,
            record { spots = c.in_ok-spots.spots; ticking = c.in_ok-spots.ensures.1; first = c.in-Some.ensures },
            refl,
          ),
        ),
      );
      unchanged = tables_equal _ c.args.self.now refl refl refl refl refl refl;
    }
