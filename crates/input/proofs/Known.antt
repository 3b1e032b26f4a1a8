-- What a buffer and the writer behind it hold, where that is known.
use Rattle.std.proofs.Common.{◌≡◌, ℕ, ◌+◌, ◌-◌, ◌≤◌, List, ◌++◌, length, take, drop, None, Some, Option, sym, ap, ◌∙◌, append_assoc, take-append-drop, take-take, drop-drop}
use Rattle.std.specs.Io.KnownBytes.{Keeps, Appends, append_known}

pub Keeps-trans : (a b c : Option (List ℕ)) → Keeps a b → Keeps b c → Keeps a c
Keeps-trans None b c p q = tt
Keeps-trans (Some x) None c p q = absurd p
Keeps-trans (Some x) (Some y) None p q = absurd q
Keeps-trans (Some x) (Some y) (Some z) p q = q ∙ p

pub Appends-trans : (a b c : Option (List ℕ)) (bs cs : List ℕ) → Appends a b bs → Appends b c cs → Appends a c (bs ++ cs)
Appends-trans None b c bs cs p q = tt
Appends-trans (Some x) None c bs cs p q = absurd p
Appends-trans (Some x) (Some y) None bs cs p q = absurd q
Appends-trans (Some x) (Some y) (Some z) bs cs p q = q ∙ ap (λ l. l ++ cs) p ∙ append_assoc x bs cs

-- the writer behind takes the front of what waits
pub append_known-moved : (a b : Option (List ℕ)) (front rest all : List ℕ) → Appends a b front → all ≡ front ++ rest → Keeps (append_known a all) (append_known b rest)
append_known-moved None b front rest all p e = tt
append_known-moved (Some x) None front rest all p e = absurd p
append_known-moved (Some x) (Some y) front rest all p e = ap (λ l. l ++ rest) p ∙ append_assoc x front rest ∙ ap (λ l. x ++ l) (sym e)

-- the bytes behind the first h are the next n of them and those behind these
pub drop-next : (xs all : List ℕ) (h n : ℕ) → xs ≡ all → n ≤ length xs - h → drop h all ≡ take n (take (length xs - h) (drop h xs)) ++ drop (h + n) all
drop-next xs all h n same fits =
    let front = take n (take (length xs - h) (drop h xs)) in
    ap (drop h) (sym same) ∙ sym (take-append-drop n (drop h xs)) ∙ ap (λ l. l ++ drop n (drop h xs)) (sym (take-take n (length xs - h) (drop h xs) fits))
    ∙ ap (λ l. front ++ l) (drop-drop n h xs ∙ ap (drop (h + n)) same)
