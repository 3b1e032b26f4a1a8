-- The ports that a page 83h tells: no other choice, of no other address, agrees further with it.
use mathlib.Core.Path.{◌≡◌, refl, sym, ap, ◌∙◌}
use mathlib.Core.Bool.{Bool, true, false, cond, ◌||◌, false≢true}
use mathlib.Core.List.{List, [], ◌∷◌, ◌++◌}
use Prim.Native.Nat.{ℕ, suc, ◌+◌, ◌-◌, ◌≤◌, ◌/◌, ◌%◌}
use native.Mathlib.Nat.{add-zero}
use native.Mathlib.Omega.{arith}
use lib.Dec.{eqb}
use lib.ListN.{length, get_or, drop, replicate}
use lib.Seq.{get_or-drop, drop-drop}
use borrow.Author.Tests.{eq-eqb, ne_eqb, eqb-true, not-false}
use Rattle.identify.specs.Names.{carries_name}
use Rattle.port.specs.declared.Ports.{Ports}
use Rattle.port.specs.Ports.{relative_chosen, sas_chosen, relative_port, sas_port, relative_part, sas_part, ports_part, wrong_address, wrong_port}
use Rattle.page83_drive.specs.Descriptor.{drive_descriptor}
use Rattle.page83.specs.Page83.{page83}
use Rattle.port.specs.Helpers.{ports_size}
use Rattle.port.proofs.Laws.{right_address}
use Rattle.page83.proofs.Laws.{named_or_not, page_size_is}
use Rattle.agreement.specs.Agreed.{agreed}
use Rattle.agreement.proofs.Laws.{agrees, agreed_self, agreed_whole, further, agreed_front}
use Rattle.checker_drive.specs.Ports.{chosen_by, port_by, ports_in, address_in, claimed_ports, claimed_address, claimed_page}
use Rattle.checker_drive.proofs.Laws.{length_address, right_length, drive_ends}

-- A run agrees further with a piece that has its own byte first, if behind that byte it does; with any other, not at all.
by_first : (b : ℕ) (s : List ℕ) (n m : ℕ) (x y : List ℕ) → (b ≡ n → (n ≡ m) × (agreed s x ≤ agreed s y)) → agreed (b ∷ s) (n ∷ x) ≤ agreed (b ∷ s) (m ∷ y)
unfolding agreed
by_first b s n m x y f = by (eqb b n) refl
  where
    by : (t : Bool) → eqb b n ≡ t → cond t (suc (agreed s x)) 0 ≤ cond (eqb b m) (suc (agreed s y)) 0
    by true e = let both = f (eqb-true b n e) in rw (eq-eqb b m (eqb-true b n e ∙ both.0)) (omega (arith, both.1))
    by false e = omega arith

at_first : (run : List ℕ) (at n m : ℕ) (x y : List ℕ) → (get_or run at 0 ≡ n → (n ≡ m) × (agreed (drop (at + 1) run) x ≤ agreed (drop (at + 1) run) y)) → agreed (drop at run) (n ∷ x) ≤ agreed (drop at run) (m ∷ y)
unfolding agreed
at_first run at n m x y f = by (drop at run) refl
  where
    by : (s : List ℕ) → drop at run ≡ s → agreed s (n ∷ x) ≤ agreed s (m ∷ y)
    by [] e = omega arith
    by (b ∷ s) e =
        let byte : get_or run at 0 ≡ b = sym (get_or-drop at run 0 0 ∙ ap (λ (k : ℕ). get_or run k 0) (omega arith)) ∙ ap (λ (l : List ℕ). get_or l 0 0) e in
        let rest : drop (at + 1) run ≡ s = sym (drop-drop 1 at run) ∙ ap (λ (l : List ℕ). drop 1 l) e in
        by_first b s n m x y (λ p. rw rest at (f (byte ∙ p)))

-- The two choices of a page by its length byte.
module _ (drive size number : ℕ) (ports : Ports) (e : size ≡ drive + ports_size ports) where
  same_choice : (relative_chosen (record { chosen = chosen_by drive size; relative = number }) ≡ relative_chosen ports) × (sas_chosen (record { chosen = chosen_by drive size; relative = number }) ≡ sas_chosen ports)
  unfolding ports_size
  same_choice = by (relative_chosen ports) (sas_chosen ports) e
    where
      by : (r s : Bool) → size ≡ drive + (cond r 8 0 + cond s 12 0) → (relative_chosen (record { chosen = chosen_by drive size; relative = number }) ≡ r) × (sas_chosen (record { chosen = chosen_by drive size; relative = number }) ≡ s)
      by false false p = rw (ne_eqb size (drive + 8) (λ q. omega arith), ne_eqb size (drive + 12) (λ q. omega arith), ne_eqb size (drive + 20) (λ q. omega arith)) (refl, refl)
      by true false p = rw (eq-eqb size (drive + 8) (omega arith)) (refl, refl)
      by false true p = rw (ne_eqb size (drive + 8) (λ q. omega arith), eq-eqb size (drive + 12) (omega arith)) (refl, refl)
      by true true p = rw (ne_eqb size (drive + 8) (λ q. omega arith), ne_eqb size (drive + 12) (λ q. omega arith), eq-eqb size (drive + 20) (omega arith)) (refl, refl)

-- The SAS port, chosen or not: an address that is the page's own agrees as far as there are bytes.
sas_further : (run : List ℕ) (at : ℕ) (address : List ℕ) (chosen : Bool) → (chosen ≡ true → length address ≡ 8) → agreed (drop at run) (cond chosen (sas_port address) []) ≤ agreed (drop at run) (cond chosen (sas_port (address_in at run)) [])
sas_further run at address false l = omega arith
sas_further run at address true l =
    let rest : drop 4 (drop at run) ≡ drop (at + 4) run = drop-drop 4 at run in
    let a = agrees (drop (at + 4) run) address in
    let own = agreed_front 8 (drop (at + 4) run) (replicate 8 0x00) in
    further (0x61 ∷ 0x93 ∷ 0x00 ∷ 0x08 ∷ []) (drop at run) address (address_in at run) (rw rest (omega (arith, a.within_first, a.within_second, l refl, own)))

-- The relative port: the one that the page's last byte tells agrees as far as either does, and with it what stands behind it.
port_further : (run : List ℕ) (at p c : ℕ) (x y : List ℕ) → p ≤ 2 → c ≤ 2 → port_by p ≡ p → c ≡ port_by (get_or run (at + 7) 0) → agreed (drop (at + 8) run) x ≤ agreed (drop (at + 8) run) y → agreed (drop at run) (relative_port p ++ x) ≤ agreed (drop at run) (relative_port c ++ y)
port_further run at p c x y hp hc own told behind =
    let rest : drop 7 (drop at run) ≡ drop (at + 7) run = drop-drop 7 at run in
    let next : at + 7 + 1 ≡ at + 8 = omega arith in
    let high : p / 0x100 ≡ 0 = omega arith in
    let low : p % 0x100 ≡ p = omega arith in
    let high-told : c / 0x100 ≡ 0 = omega arith in
    let low_told : c % 0x100 ≡ c = omega arith in
    rw (high, low, high-told, low_told)
    (further (0x61 ∷ 0x94 ∷ 0x00 ∷ 0x04 ∷ 0x00 ∷ 0x00 ∷ 0x00 ∷ []) (drop at run) (p ∷ x) (c ∷ y)
    (rw rest (at_first run (at + 7) p c x y (λ e. (sym (told ∙ ap port_by e ∙ own), rw next behind)))))

-- Both, chosen or not.
ports_further : (run : List ℕ) (at p c : ℕ) (address : List ℕ) (r s : Bool) → (r ≡ true → (p ≤ 2) × (port_by p ≡ p)) → c ≡ port_by (get_or run (at + 7) 0) → (s ≡ true → length address ≡ 8) → agreed (drop at run) (cond r (relative_port p) [] ++ cond s (sas_port address) []) ≤ agreed (drop at run) (cond r (relative_port c) [] ++ cond s (sas_port (address_in (at + length (cond r (relative_port c) [])) run)) [])
ports_further run at p c address false s number told l = rw add-zero (sas_further run at address s l)
ports_further run at p c address true s number told l =
    let few : c ≤ 2 = rw told (by (eqb (get_or run (at + 7) 0) 2)) in
    port_further run at p c (cond s (sas_port address) []) (cond s (sas_port (address_in (at + 8) run)) []) (number refl).0 few (number refl).1 told (sas_further run (at + 8) address s l)
  where
    by : (b : Bool) → cond b 2 1 ≤ 2
    by true = omega arith
    by false = omega arith

-- A port that is not refused is 1 or 2.
right_port : (ports : Ports) → wrong_port ports ≡ false → relative_chosen ports ≡ true → (ports.relative ≤ 2) × (port_by ports.relative ≡ ports.relative)
unfolding wrong_port
right_port ports e chosen = by (eqb ports.relative 1) refl (eqb ports.relative 2) refl (not-false _ (rw chosen at e))
  where
    by : (a : Bool) → eqb ports.relative 1 ≡ a → (b : Bool) → eqb ports.relative 2 ≡ b → (a || b) ≡ true → (ports.relative ≤ 2) × (port_by ports.relative ≡ ports.relative)
    by true p b q t = let one = eqb-true ports.relative 1 p in (omega (arith, one), rw one)
    by false p true q t = let two = eqb-true ports.relative 2 q in (omega (arith, two), rw two)
    by false p false q t = absurd (false≢true t)

-- The address that a page tells is of the right size.
pub claimed_address_is : (block page : List ℕ) → wrong_address (claimed_ports block page) (claimed_address block page) ≡ false
unfolding claimed_address
claimed_address_is block page =
    right_length (claimed_ports block page) (claimed_address block page) (length_address (4 + length (drive_descriptor block) + length (relative_part (claimed_ports block page))) page)

-- No page of the block with other ports, or with another address, agrees further than the one with the ports that the page tells.
module _ (block page : List ℕ) (h : length block ≡ 512) (ports : Ports) (address : List ℕ) (g : wrong_address ports address ≡ false) (w : wrong_port ports ≡ false) where
  pub furthest : agreed page (page83 block ports address) ≤ agreed page (claimed_page block page)
  unfolding claimed_page claimed_address claimed_ports relative_part sas_part ports_size
  furthest =
      let drive = drive_descriptor block in
      let at = 4 + length drive in
      let told = ports_in at page in
      let place = at + length (relative_part told) in
      let other = address_in place page in
      rw (named_or_not block ports address h g, named_or_not block told other h (right_length told other (length_address place page)))
      (further (0x00 ∷ 0x83 ∷ 0x00 ∷ []) page ((length drive + ports_size ports) ∷ (drive ++ ports_part ports address)) ((length drive + ports_size told) ∷ (drive ++ ports_part told other))
      (at_first page 3 (length drive + ports_size ports) (length drive + ports_size told) (drive ++ ports_part ports address) (drive ++ ports_part told other) (λ e. behind e)))
    where
      behind : get_or page 3 0 ≡ length (drive_descriptor block) + ports_size ports → (length (drive_descriptor block) + ports_size ports ≡ length (drive_descriptor block) + ports_size (ports_in (4 + length (drive_descriptor block)) page)) × (agreed (drop 4 page) (drive_descriptor block ++ ports_part ports address) ≤ agreed (drop 4 page) (drive_descriptor block ++ ports_part (ports_in (4 + length (drive_descriptor block)) page) (address_in (4 + length (drive_descriptor block) + length (relative_part (ports_in (4 + length (drive_descriptor block)) page))) page)))
      behind e =
          let drive = drive_descriptor block in
          let at = 4 + length drive in
          let size : at - 4 ≡ length drive = omega arith in
          let number = port_by (get_or page (at + 7) 0) in
          let same = same_choice (length drive) (get_or page 3 0) number ports e in
          rw (size, same.0, same.1)
          (refl, further drive (drop 4 page) (ports_part ports address) _ (rw (drop-drop (length drive) 4 page) (ports_further page at ports.relative number address (relative_chosen ports) (sas_chosen ports) (right_port ports w) refl (right_address ports address g))))

-- A page of the block with some choice of ports is the one with the ports that it tells: it agrees with that to its end, and so tells
-- the same size.
module _ (block : List ℕ) (h : length block ≡ 512) (ports : Ports) (address : List ℕ) (g : wrong_address ports address ≡ false) (w : wrong_port ports ≡ false) where
  pub own_page_claimed : claimed_page block (page83 block ports address) ≡ page83 block ports address
  unfolding claimed_page
  own_page_claimed =
      let page = page83 block ports address in
      let told = claimed_ports block page in
      let other = claimed_address block page in
      let right = claimed_address_is block page in
      let a = agrees page (page83 block told other) in
      let n = page_size_is block ports address h g in
      let whole : agreed page (page83 block told other) ≡ length page = omega (arith, furthest block page h ports address g w, agreed_self page, a.within_first) in
      let size : length (drive_descriptor block) + ports_size ports ≡ length (drive_descriptor block) + ports_size told =
      sym (ap (λ (l : List ℕ). get_or l 3 0) (named_or_not block ports address h g))
      ∙ a.before 3 (omega (arith, whole, n, (drive_ends (carries_name block)).0))
      ∙ ap (λ (l : List ℕ). get_or l 3 0) (named_or_not block told other h right) in
      let same : length page ≡ length (page83 block told other) = omega (arith, n, page_size_is block told other h right, size) in
      sym (agreed_whole page (page83 block told other) (whole ∙ same) same)
