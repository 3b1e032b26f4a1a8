-- The record of what is pending: nothing, an order, or an order with a reset over it (RULES 9).
use Rattle.std.specs.Prelude.{Bool, cond, not, ◌&&◌, ◌||◌, eqb}
use Rattle.passthrough_order.specs.declared.Order.{Order}
use Rattle.passthrough_order.specs.Order.{no_order, reset}
use Rattle.passthrough.specs.declared.Pending.{Pending}

-- State 0 holds nothing, state 2 an order with a reset over it, and every other state an order. `order` is the one that completion ends:
-- the order, or the reset over it; `older` is the order under a reset, and zero where there is none.
abbrev pub empty : Pending
empty = record { state = 0; order = no_order; older = no_order }

abbrev pub holding : Order → Pending
holding order = record { state = 1; order = order; older = no_order }

abbrev pub over : Order → Order → Pending
over older order = record { state = 2; order = order; older = older }

abbrev pub nothing_pending : Pending → Bool
nothing_pending pending = eqb pending.state 0

abbrev pub reset_over : Pending → Bool
reset_over pending = eqb pending.state 2

-- A reset is pending: over an order, or by itself.
abbrev pub reset_pending : Pending → Bool
reset_pending pending = reset_over pending || not (nothing_pending pending) && reset pending.order.protocol

-- The record with one more order taken: by itself where nothing is pending, else over the order that is.
abbrev pub taking : Pending → Order → Pending
taking pending order = cond (nothing_pending pending) (holding order) (over pending.order order)
