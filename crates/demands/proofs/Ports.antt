-- The ports' part of page 83h: what was written is read back, what is read is what would be written, and when two parts are equal.
use mathlib.Core.Path.{◌≡◌, refl, sym, ap, ◌∙◌}
use mathlib.Core.Bool.{Bool, true, false, cond, not, ◌&&◌, ◌||◌, and-eq-true_iff, true≢false, false≢true}
use mathlib.Core.List.{List, [], ◌∷◌, ◌++◌, append-nil}
use Prim.Native.Nat.{ℕ, zero, suc, ◌+◌, ◌*◌, ◌/◌, ◌%◌, ◌≤◌}
use native.Mathlib.Omega.{arith}
use lib.Dec.{eqb, eqb-suc-zero}
use lib.ListN.{length, get_or, take, drop, replicate, length-take, length-drop, drop_of_length-le, take-append-drop}
use lib.Seq.{take_all}
use borrow.Author.Tests.{eq-eqb, ne_eqb, eqb-true, eqb-false, not-true}
use Rattle.rules.specs.Bits.{bit, flag}
use Rattle.room.specs.Room.{written}
use Rattle.room.proofs.Laws.{written_front, next}
use Rattle.identify.specs.Bytes.{equal}
use Rattle.identify.proofs.Bytes.{equal_same}
use Rattle.port.specs.declared.Ports.{Ports}
use Rattle.port.specs.Ports.{relative_chosen, sas_chosen, relative_head, relative_port, sas_port, relative_part, sas_part, ports_part, is_port, wrong_address, wrong_port}
use Rattle.port.proofs.Laws.{right_address, right_port}
use Rattle.page83_reader.specs.Reader.{two_bytes, relative_in, behind_relative, tells_sas, sas_or_nothing, tells_ports, ports_of, ports_in, address_of, address_in}
use Rattle.page83_reader.proofs.Zero.{relative_long}
use Rattle.demands.specs.Promises.{told_ports, told_address, SamePorts}

-- A port's number is 1 or 2: never 0, and small.
port_is_some : (number : ℕ) → is_port number ≡ true → eqb number 0 ≡ false
port_is_some zero h = absurd (false≢true h)
port_is_some (suc n) h = eqb-suc-zero n

port_is_small : (number : ℕ) → is_port number ≡ true → number ≤ 2
port_is_small number h = by (eqb number 1) (eqb number 2) refl refl h
  where
    by : (a b : Bool) → eqb number 1 ≡ a → eqb number 2 ≡ b → (a || b) ≡ true → number ≤ 2
    by true b e f h = omega (arith, eqb-true number 1 e)
    by false true e f h = omega (arith, eqb-true number 2 f)
    by false false e f h = absurd (false≢true h)

-- Eight bytes in eight bytes.
in_eight : (bytes : List ℕ) → length bytes ≡ 8 → written (replicate 8 0x00) 0 bytes ≡ bytes
in_eight bytes l =
    written_front (replicate 8 0x00) bytes
    ∙ rw (l, take_all 8 bytes (omega (arith, l))) (append-nil bytes)

-- A list that starts with another one.
pub starts_with : (k : ℕ) (first l : List ℕ) → take k l ≡ first → first ++ drop k l ≡ l
starts_with k first l e = ap (λ (f : List ℕ). f ++ drop k l) (sym e) ∙ take-append-drop k l

nothing_left : (bytes : List ℕ) → length bytes ≡ 0 → bytes ≡ []
nothing_left [] l = refl
nothing_left (b ∷ bytes) l = absurd (omega (arith, l))

-- What is read of the two parts.
relative_read : (number : ℕ) (rest : List ℕ) → is_port number ≡ true → relative_in (relative_port number ++ rest) ≡ number
unfolding relative_in equal
relative_read number rest h =
    let same : 0x100 * (number / 0x100) + number % 0x100 ≡ number = omega arith in
    rw (same, h)

module _ (ports : Ports) (address : List ℕ) (a : wrong_address ports address ≡ false) (p : wrong_port ports ≡ false) where
  no_relative : relative_in (sas_part ports address) ≡ 0
  unfolding relative_in equal sas_part
  no_relative = by (sas_chosen ports)
    where
      by : (t : Bool) → relative_in (cond t (sas_port address) []) ≡ 0
      by true = refl
      by false = refl

  pub relative_back : relative_in (ports_part ports address) ≡ cond (relative_chosen ports) ports.relative 0
  unfolding relative_part
  relative_back = by (relative_chosen ports) refl
    where
      by : (t : Bool) → relative_chosen ports ≡ t → relative_in (cond t (relative_port ports.relative) [] ++ sas_part ports address) ≡ cond t ports.relative 0
      by true e = relative_read ports.relative (sas_part ports address) (right_port ports p e)
      by false e = no_relative

  some_relative : eqb (relative_in (ports_part ports address)) 0 ≡ not (relative_chosen ports)
  some_relative = ap (λ (n : ℕ). eqb n 0) relative_back ∙ by (relative_chosen ports) refl
    where
      by : (t : Bool) → relative_chosen ports ≡ t → eqb (cond t ports.relative 0) 0 ≡ not t
      by true e = port_is_some ports.relative (right_port ports p e)
      by false e = refl

  pub behind_back : behind_relative (ports_part ports address) ≡ sas_part ports address
  unfolding behind_relative relative_part
  behind_back = rw some_relative (by (relative_chosen ports))
    where
      by : (t : Bool) → cond (not t) (cond t (relative_port ports.relative) [] ++ sas_part ports address) (drop 8 (cond t (relative_port ports.relative) [] ++ sas_part ports address)) ≡ sas_part ports address
      by true = refl
      by false = refl

  some_sas : eqb (length (sas_part ports address)) 0 ≡ not (sas_chosen ports)
  unfolding sas_part
  some_sas = by (sas_chosen ports)
    where
      by : (t : Bool) → eqb (length (cond t (sas_port address) [])) 0 ≡ not t
      by true = ne_eqb (length (sas_port address)) 0 (λ e. omega (arith, e))
      by false = refl

  pub tells_back : tells_ports (ports_part ports address) ≡ true
  unfolding tells_ports tells_sas sas_part equal
  tells_back = rw behind_back (by (sas_chosen ports) refl)
    where
      by : (t : Bool) → sas_chosen ports ≡ t → sas_or_nothing (cond t (sas_port address) []) ≡ true
      by true e = rw (ne_eqb (length (sas_port address)) 0 (λ z. omega (arith, z)), eq-eqb (length (sas_port address)) 12 (omega (arith, right_address ports address a e)))
      by false e = refl

  not_not : (t : Bool) → not (not t) ≡ t
  not_not true = refl
  not_not false = refl

  pub ports_back : ports_in (ports_part ports address) ≡ told_ports ports
  unfolding ports_in
  ports_back = rw (behind_back, some_relative, some_sas, relative_back, not_not (relative_chosen ports), not_not (sas_chosen ports))

  pub address_back : address_in (ports_part ports address) ≡ told_address ports address
  unfolding address_in sas_part
  address_back = rw behind_back (by (sas_chosen ports) refl)
    where
      by : (t : Bool) → sas_chosen ports ≡ t → address_of (cond t (sas_port address) []) ≡ cond t address (replicate 8 0x00)
      by true e =
          let l = right_address ports address a e in
          rw (take_all 8 address (omega (arith, l))) (in_eight address l)
      by false e = refl

-- What is read of a part that tells ports is what would be written.
chosen_back : (r s : Bool) → (bit 0 (flag r + 2 * flag s) ≡ r) × (bit 1 (flag r + 2 * flag s) ≡ s)
chosen_back true true = (refl, refl)
chosen_back true false = (refl, refl)
chosen_back false true = (refl, refl)
chosen_back false false = (refl, refl)

-- A relative target port that is read, byte by byte.
found : (bytes : List ℕ) → (relative_in bytes ≡ 0 → ⊥) → (is_port (relative_in bytes) ≡ true) × (relative_port (relative_in bytes) ++ drop 8 bytes ≡ bytes)
unfolding relative_in
found bytes n = by (equal (take 6 bytes) relative_head && is_port (two_bytes bytes)) refl
  where
    by : (t : Bool) → (equal (take 6 bytes) relative_head && is_port (two_bytes bytes)) ≡ t → (is_port (cond t (two_bytes bytes) 0) ≡ true) × (relative_port (cond t (two_bytes bytes) 0) ++ drop 8 bytes ≡ bytes)
    by false e = absurd (n (rw e))
    by true e =
        let both = (and-eq-true_iff (equal (take 6 bytes) relative_head) (is_port (two_bytes bytes))).0 e in
        let few = port_is_small (two_bytes bytes) both.1 in
        let high : two_bytes bytes / 0x100 ≡ get_or bytes 6 0 = omega (arith, few) in
        let low : two_bytes bytes % 0x100 ≡ get_or bytes 7 0 = omega (arith, few) in
        let long = relative_long bytes n in
        let number = next bytes 6 (omega (arith, long)) ∙ ap (λ (l : List ℕ). get_or bytes 6 0 ∷ l) (next bytes 7 (omega (arith, long))) in (
          both.1,
          rw (high, low) (ap (λ (l : List ℕ). relative_head ++ l) (sym number) ∙ starts_with 6 relative_head bytes (equal_same (take 6 bytes) relative_head both.0)),
        )

module _ (bytes : List ℕ) (h : tells_ports bytes ≡ true) where
  abbrev sas : List ℕ
  sas = behind_relative bytes

  abbrev relative_there : Bool
  relative_there = not (eqb (relative_in bytes) 0)

  abbrev sas_there : Bool
  sas_there = not (eqb (length sas) 0)

  chose_relative : relative_chosen (ports_in bytes) ≡ relative_there
  unfolding ports_in
  chose_relative = (chosen_back relative_there sas_there).0

  chose_sas : sas_chosen (ports_in bytes) ≡ sas_there
  unfolding ports_in
  chose_sas = (chosen_back relative_there sas_there).1

  -- The SAS part, where it is there: 12 bytes, with its head and the address.
  whole_sas : sas_there ≡ true → (length sas ≡ 12) × (sas_port (drop 4 sas) ≡ sas)
  unfolding tells_ports tells_sas
  whole_sas e =
      let some = not-true (eqb (length sas) 0) e in
      let both = (and-eq-true_iff (eqb (length sas) 12) (equal (take 4 sas) (sas_port []))).0 (rw some at h) in
      (eqb-true (length sas) 12 both.0, starts_with 4 (sas_port []) sas (equal_same (take 4 sas) (sas_port []) both.1))

  address_of_sas : sas_there ≡ true → address_in bytes ≡ drop 4 sas
  unfolding address_in
  address_of_sas e =
      let l : length (drop 4 sas) ≡ 8 = omega (arith, length-drop 4 sas, (whole_sas e).0) in
      rw (take_all 8 (drop 4 sas) (omega (arith, l))) (in_eight (drop 4 sas) l)

  pub address_right : wrong_address (ports_in bytes) (address_in bytes) ≡ false
  unfolding wrong_address
  address_right = rw chose_sas (by sas_there refl)
    where
      by : (t : Bool) → sas_there ≡ t → (t && not (eqb (length (address_in bytes)) 8)) ≡ false
      by true e = rw (address_of_sas e, eq-eqb (length (drop 4 sas)) 8 (omega (arith, length-drop 4 sas, (whole_sas e).0)))
      by false e = refl

  pub port_right : wrong_port (ports_in bytes) ≡ false
  unfolding wrong_port ports_in
  port_right = rw (chosen_back relative_there sas_there).0 (by (eqb (relative_in bytes) 0) refl)
    where
      by : (t : Bool) → eqb (relative_in bytes) 0 ≡ t → (not t && not (is_port (relative_in bytes))) ≡ false
      by true e = refl
      by false e = rw (found bytes (eqb-false (relative_in bytes) 0 e)).0

  sas_again : sas_part (ports_in bytes) (address_in bytes) ≡ sas
  unfolding sas_part
  sas_again = rw chose_sas (by (eqb (length sas) 0) refl)
    where
      by : (t : Bool) → eqb (length sas) 0 ≡ t → cond (not t) (sas_port (address_in bytes)) [] ≡ sas
      by true e = sym (nothing_left sas (eqb-true (length sas) 0 e))
      by false e = rw (address_of_sas (rw e)) (whole_sas (rw e)).1

  pub ports_again : ports_part (ports_in bytes) (address_in bytes) ≡ bytes
  unfolding relative_part behind_relative ports_in
  ports_again = rw (chose_relative, sas_again) (by (eqb (relative_in bytes) 0) refl)
    where
      by : (t : Bool) → eqb (relative_in bytes) 0 ≡ t → cond (not t) (relative_port (relative_in bytes)) [] ++ cond t bytes (drop 8 bytes) ≡ bytes
      by true e = refl
      by false e = (found bytes (eqb-false (relative_in bytes) 0 e)).1

-- Two parts are equal exactly when they tell the same ports.
module _ (p : Ports) (x : List ℕ) (q : Ports) (y : List ℕ) where
  pub same_ports_same_part : SamePorts p x q y → ports_part p x ≡ ports_part q y
  unfolding relative_part sas_part
  same_ports_same_part s = rw (← s.both_relative, ← s.both_sas) (by (relative_chosen p) (sas_chosen p) s.same_number s.same_address)
    where
      by : (r t : Bool) → (r ≡ true → p.relative ≡ q.relative) → (t ≡ true → x ≡ y) → cond r (relative_port p.relative) [] ++ cond t (sas_port x) [] ≡ cond r (relative_port q.relative) [] ++ cond t (sas_port y) []
      by true true n m = rw (n refl, m refl)
      by true false n m = rw (n refl)
      by false true n m = rw (m refl)
      by false false n m = refl

  one_number : (r t : Bool) → (r ≡ true → is_port p.relative ≡ true) → (t ≡ true → is_port q.relative ≡ true) → cond r p.relative 0 ≡ cond t q.relative 0 → (r ≡ t) × (r ≡ true → p.relative ≡ q.relative)
  one_number true true n m e = (refl, λ c. e)
  one_number true false n m e = absurd (true≢false (sym (eq-eqb p.relative 0 e) ∙ port_is_some p.relative (n refl)))
  one_number false true n m e = absurd (true≢false (sym (eq-eqb q.relative 0 (sym e)) ∙ port_is_some q.relative (m refl)))
  one_number false false n m e = (refl, λ c. absurd (false≢true c))

  one_address : (s t : Bool) → cond s (sas_port x) [] ≡ cond t (sas_port y) [] → (s ≡ t) × (s ≡ true → x ≡ y)
  one_address true true e = (refl, λ c. ap (drop 4) e)
  one_address true false e = absurd (omega (arith, ap length e))
  one_address false true e = absurd (omega (arith, ap length e))
  one_address false false e = (refl, λ c. absurd (false≢true c))

  module _ (a : wrong_address p x ≡ false) (f : wrong_port p ≡ false) (b : wrong_address q y ≡ false) (g : wrong_port q ≡ false) where
    pub same_part_same_ports : ports_part p x ≡ ports_part q y → SamePorts p x q y
    unfolding sas_part
    same_part_same_ports e =
        let n = one_number (relative_chosen p) (relative_chosen q) (right_port p f) (right_port q g) (sym (relative_back p x a f) ∙ ap relative_in e ∙ relative_back q y b g) in
        let m = one_address (sas_chosen p) (sas_chosen q) (sym (behind_back p x a f) ∙ ap behind_relative e ∙ behind_back q y b g) in
        record { both_relative = n.0; both_sas = m.0; same_number = n.1; same_address = m.1 }
