-- Laws of the INQUIRY entry: what the checks leave true once they have passed.
use mathlib.Core.Path.{◌≡◌, refl, sym, ◌∙◌}
use mathlib.Core.Bool.{Bool, true, false, cond, ◌&&◌, ◌||◌, not, and-eq-true_iff, true≢false}
use mathlib.Core.List.{List}
use Prim.Native.Nat.{ℕ, ◌≤◌}
use lib.Dec.{eqb, ltb}
use lib.ListN.{length, take, drop}
use borrow.Author.Tests.{ne_eqb, eqb-true, eqb-false, ltb-false, not-false}
use Rattle.rules.proofs.First.{silent, neither, first_answers, second_answers}
use Rattle.refusals.specs.Helpers.{Roomy}
use Rattle.refusals.proofs.Table.{roomy_unless}
use Rattle.port.specs.declared.Ports.{Ports}
use Rattle.port.specs.Ports.{wrong_address}
use Rattle.packet.specs.Packet.{unusable}
use Rattle.inquiry_fields.specs.Fields.{evpd, cmddt, page_code}
use Rattle.inquiry_asked.specs.Request.{Request, is_packet, passes_through}
use Rattle.inquiry_asked.specs.Asked.{to_write}
use Rattle.inquiry_asked.specs.Helpers.{Servable}
use Rattle.inquiry_checks.specs.Checks.{wrong_size, checks, refusal_of}
use Rattle.inquiry_checks.specs.Helpers.{early_refusal}

-- The sizes, where check 1 does not apply.
pub record Sized (block signature texts : List ℕ) (ports : Ports) (address : List ℕ) (sense : ℕ) : Type 0 where
  pub whole_or_none : not (eqb (length block) 512 || eqb (length block) 0) ≡ false
  pub twenty : length signature ≡ 20
  pub twenty_eight : length texts ≡ 28
  pub right_address : wrong_address ports address ≡ false
  pub enough : 22 ≤ sense

pub sized : (block signature texts : List ℕ) (ports : Ports) (address : List ℕ) (sense : ℕ) → wrong_size block signature texts ports address sense ≡ false → Sized block signature texts ports address sense
sized block signature texts ports address sense e =
    let a = not (eqb (length block) 512 || eqb (length block) 0) in
    let b = not (eqb (length signature) 20) in
    let c = not (eqb (length texts) 28) in
    let d = wrong_address ports address in
    let s = neither (a || b || c || d) (ltb sense 22) e in
    let u = neither (a || b || c) d s.0 in
    let t = neither (a || b) c u.0 in
    record {
      whole_or_none = (neither a b t.0).0;
      twenty = eqb-true _ _ (not-false _ (neither a b t.0).1);
      twenty_eight = eqb-true _ _ (not-false _ t.1);
      right_address = u.1;
      enough = ltb-false _ _ s.1;
    }

-- A refusal that writes has room for it.
pub roomy : (q : Request) (sense : ℕ) {number : ℕ} → number ≡ early_refusal q sense → Roomy number sense
unfolding early_refusal
roomy q sense e =
    roomy_unless (wrong_size q.block q.signature q.texts q.ports q.address sense) _ (λ w. (sized q.block q.signature q.texts q.ports q.address sense w).enough) e

-- The refusal, by the checks that do not look at the room and the one that does.
module _ (q : Request) (room sense : ℕ) where
  pub refused_early : (early_refusal q sense ≡ 0 → ⊥) → refusal_of q room sense ≡ early_refusal q sense
  unfolding refusal_of early_refusal
  refused_early = first_answers (take 10 (checks q room sense)) (drop 10 (checks q room sense)) refl

  pub refused_late : early_refusal q sense ≡ 0 → refusal_of q room sense ≡ cond (not (passes_through (is_packet q) q.command) && ltb room (to_write q)) 8 0
  unfolding refusal_of early_refusal
  refused_late = second_answers (take 10 (checks q room sense)) (drop 10 (checks q room sense)) refl

  pub accepted_early : refusal_of q room sense ≡ 0 → early_refusal q sense ≡ 0
  accepted_early z = by (eqb (early_refusal q sense) 0) refl
    where
      by : (t : Bool) → eqb (early_refusal q sense) 0 ≡ t → early_refusal q sense ≡ 0
      by true e = eqb-true (early_refusal q sense) 0 e
      by false e = sym (refused_early (eqb-false (early_refusal q sense) 0 e)) ∙ z

-- A page that is made of the block has a whole one: there is one or none, and check 6 did not find none.
module _ (code : ℕ) where
  not_both : (b : Bool) → eqb code 0x80 ≡ b → (b || eqb code 0x83) ≡ true → (eqb code 0x00 || eqb code 0x89) ≡ true → ⊥
  not_both true e g h = true≢false (sym h ∙ rw (eqb-true code 0x80 e))
  not_both false e g h = true≢false (sym h ∙ rw (eqb-true code 0x83 g))

one_of : (whole none asked : Bool) → (none && asked) ≡ false → asked ≡ true → not (whole || none) ≡ false → whole ≡ true
one_of true none asked s g e = refl
one_of false true asked s g e = absurd (true≢false (sym g ∙ s))
one_of false false asked s g e = absurd (true≢false e)

whole_block : (packet evpd cmddt : Bool) (code size : ℕ)
    → (not packet && (eqb size 0 && (not evpd || eqb code 0x80 || eqb code 0x83))) ≡ false
    → not (eqb size 512 || eqb size 0) ≡ false
    → (packet && not (evpd && not cmddt && (eqb code 0x00 || eqb code 0x89))) ≡ false
    → (not packet && not evpd || eqb code 0x80 || eqb code 0x83) ≡ true → size ≡ 512
whole_block true evpd cmddt code size s e h g =
    absurd (not_both code (eqb code 0x80) refl g ((and-eq-true_iff (evpd && not cmddt) _).0 (not-false _ h)).1)
whole_block false evpd cmddt code size s e h g = eqb-true size 512 (one_of _ _ _ s g e)

-- What holds once none of the early checks has applied.
pub record Granted (q : Request) : Type 0 where
  pub servable : passes_through (is_packet q) q.command ≡ false → Servable q
  pub whole : 6 ≤ length q.command

pub granted : (q : Request) (sense : ℕ) → early_refusal q sense ≡ 0 → Granted q
unfolding early_refusal
granted q sense e =
    let c = silent (take 10 (checks q 0 sense)) refl e in
    let s = sized q.block q.signature q.texts q.ports q.address sense c.0 in
    let short = c.1.1.1.1 in
    let list = short.1.1.1 in
    record {
      servable = λ h.
          record {
            command = ltb-false _ _ short.0;
            texts = s.twenty_eight;
            signature = s.twenty;
            whole_or_none = λ some. eqb-true _ _ (one_of (eqb (length q.block) 512) _ true (rw (ne_eqb _ _ some)) refl s.whole_or_none);
            block = whole_block (is_packet q) (evpd q.command) (cmddt q.command) (page_code q.command) (length q.block) list.0 s.whole_or_none h;
            reply = listed (is_packet q) (eqb (page_code q.command) 0x00) (unusable q.reply) _ h list.1.1.0;
            address = s.right_address;
          };
      whole = ltb-false _ _ short.0;
    }
  where
    listed : (packet zero bad through : Bool) → through ≡ false → (packet && not through && zero && bad) ≡ false → (zero && packet && bad) ≡ false
    listed true true bad through h e = rw h at e
    listed true false bad through h e = refl
    listed false true bad through h e = refl
    listed false false bad through h e = refl
