-- Two blocks are the same drive, or are not, by their words.
use mathlib.Core.Path.{◌≡◌}
use mathlib.Core.Bool.{true}
use mathlib.Core.List.{List}
use mathlib.Core.Logic.{◌⊎◌, inl, inr, ◌↔◌, ⊎_elim}
use Prim.Native.Nat.{ℕ}
use native.Mathlib.Omega.{arith}
use lib.ListN.{length}
use Rattle.identify.specs.Bytes.{Bytes}
use Rattle.identify.proofs.Words.{same_words, named_by_words, nameless_by_words}
use Rattle.drive.specs.Drive.{same_drive}
use Rattle.drive.specs.Words.{NameInWords, TextsInWords}
use Rattle.drive.proofs.Drive.{same_drive_means, same_drive_when}

-- Demand 3's condition, over the words of two blocks of 512 bytes.
module _ {a b : List ℕ} (ba : Bytes a) (bb : Bytes b) (la : length a ≡ 512) (lb : length b ≡ 512) where
  pub same_drive_by_words : (same_drive a b ≡ true) ↔ (NameInWords a b ⊎ TextsInWords a b)
  same_drive_by_words =
      let named-a = named_by_words ba la in
      let named-b = named_by_words bb lb in
      let none-a = nameless_by_words ba la in
      let none-b = nameless_by_words bb lb in
      let same = same_words 108 111 ba bb (omega arith) (omega arith) in (
        λ e. ⊎_elim (λ w. inl (named-a.0 w.0, named-b.0 w.1, same.0 w.2)) (λ w. inr (none-a.0 w.0, none-b.0 w.1, w.2, w.3)) (same_drive_means a b e),
        λ w. same_drive_when a b (⊎_elim (λ n. inl (named-a.1 n.0, named-b.1 n.1, same.1 n.2)) (λ t. inr (none-a.1 t.0, none-b.1 t.1, t.2, t.3)) w),
      )
