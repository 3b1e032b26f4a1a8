-- No rules: a name for the contract of a function below `buildable`.
use Rattle.std.specs.Prelude.{Bool, false, cond, ◌&&◌, not, eqb}
use Rattle.passthrough_order.specs.declared.Order.{Order}
use Rattle.passthrough_order.specs.Order.{without_data, with_data, reset}
use Rattle.buildable.specs.Buildable.{every, has_direction, of_reset}

-- An order is as its protocol has orders: with a length and a direction, with neither, or, a reset, with nothing.
abbrev pub protocol_fit : Order → Bool
protocol_fit o =
    cond (with_data o.protocol)
    (not (eqb o.length 0) && has_direction o.protocol o.direction)
    (cond (without_data o.protocol)
    (eqb o.length 0 && eqb o.direction 0)
    (cond (reset o.protocol) (every (of_reset o)) false))
