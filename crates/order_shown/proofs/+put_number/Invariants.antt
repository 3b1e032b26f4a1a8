-- `put_number`: each call has a digit less to put.
use Rattle.order_shown.proofs.+put_number.Given as goal

abbrev pub decreases-put_number : goal.decreases-put_number
decreases-put_number l = l.number
