-- How an order ends (RULES 9).
use Rattle.std.specs.Prelude.{Bool, cond, ◌||◌, not, List, ℕ, eqb, get_or}
use Rattle.rules.specs.Bits.{bit}
use Rattle.room.specs.Room.{written}
use Rattle.refusals.specs.Refusal.{good, check_condition}
use Rattle.sense.specs.Sense.{sense_data, registers as told}
use Rattle.passthrough_order.specs.declared.Order.{Order}

-- A flag of an order is set where it is not zero: an order that the board made has 0 or 1.
abbrev pub is_set : ℕ → Bool
is_set flag = not (eqb flag 0)

-- The drive reports an error: status bit 0 or 5.
abbrev pub failed : List ℕ → Bool
failed registers = bit 0 (get_or registers 10 0) || bit 5 (get_or registers 10 0)

-- An error is CHECK CONDITION with key 0Bh; without one, CK_COND makes it CHECK CONDITION with key 01h, 00h/1Dh; else it is GOOD
-- and writes no sense data. The registers are told with the order's own EXTEND.
abbrev pub end_status : Order → List ℕ → ℕ
end_status order registers = cond (failed registers) check_condition (cond (is_set order.ck_cond) check_condition good)

abbrev pub end_sense : Order → List ℕ → ℕ → List ℕ → List ℕ
end_sense order registers form sense =
    cond (failed registers) (written sense 0 (sense_data form 0x0B 0x00 0x00 (told (is_set order.extend) registers)))
    (cond (is_set order.ck_cond) (written sense 0 (sense_data form 0x01 0x00 0x1D (told (is_set order.extend) registers)))
    sense)
