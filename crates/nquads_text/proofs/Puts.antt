-- Bytes that go to a sink through a block, one piece after another.
use Rattle.std.proofs.Common.{◌≡◌, ℕ, suc, ◌+◌, ◌-◌, ◌<◌, Bool, true, false, cond, arith, length-drop, get_or, subst, OnOk, IsErr, eqb, length-append, List, [], ◌∷◌, ◌++◌, Option, Result, Ok, Err, refl, sym, ap, ◌∙◌, append_assoc, append-nil, length, take, drop, take-append-drop}
use Rattle.std.proofs.lemmas.List.{take_more, drop_more, take_all}
use Rattle.std.proofs.Math.Seq.{take-add}
use Rattle.std.proofs.lemmas.Bool.Decides.{nat_tests}
use Rattle.nquads_text.specs.Written.{is_plain, escaped}
use Rattle.std.proofs.lemmas.Grind.{flat_map-append}
use Rattle.std.specs.List.{flat_map, prefix_len}
use Rattle.std.specs.Io.KnownBytes.{Appends}
use Rattle.std.proofs.KnownBytes.{Appends-trans, Appends-nil}
use Rattle.ld_io.specs.Sinks.{AppendsFront}
use lib.Seq.{take-append_seam}
use Rattle.nquads_text.specs.Blocks.{Puts, Passes, Takes}

-- nothing but the block changed
pub stays : (held : Option (List ℕ)) (block block' bytes : List ℕ) → block' ≡ block ++ bytes → Puts held block held block' bytes
stays held block block' bytes is = ([], Appends-nil held, sym is)

-- one piece, and then another
pub then : (h0 h1 h2 : Option (List ℕ)) (b0 b1 b2 xs ys : List ℕ) → Puts h0 b0 h1 b1 xs → Puts h1 b1 h2 b2 ys → Puts h0 b0 h2 b2 (xs ++ ys)
then h0 h1 h2 b0 b1 b2 xs ys first second =
    (first.0 ++ second.0, Appends-trans h0 h1 h2 first.0 second.0 first.1 second.1, sym (append_assoc b0 xs ys) ∙ ap (λ l. l ++ ys) first.2 ∙ append_assoc first.0 b1 ys ∙ ap (λ l. first.0 ++ l) second.2 ∙ sym (append_assoc first.0 second.0 b2))

-- what was to come, and didn't, is left
pub cut : (h0 h1 : Option (List ℕ)) (b0 left xs ys : List ℕ) → Puts h0 b0 h1 left xs → Puts h0 b0 h1 (left ++ ys) (xs ++ ys)
cut h0 h1 b0 left xs ys first =
    (first.0, first.1, sym (append_assoc b0 xs ys) ∙ ap (λ l. l ++ ys) first.2 ∙ append_assoc first.0 left ys)

-- a fault at a later piece
pub fails_then : (h0 h1 h2 : Option (List ℕ)) (b0 b1 xs ys zs : List ℕ) → Puts h0 b0 h1 b1 xs → ((left : List ℕ) × Puts h1 b1 h2 left ys) → (left : List ℕ) × Puts h0 b0 h2 left (xs ++ (ys ++ zs))
fails_then h0 h1 h2 b0 b1 xs ys zs first second =
    (second.0 ++ zs, then h0 h1 h2 b0 b1 (second.0 ++ zs) xs (ys ++ zs) first (cut h1 h2 b1 second.0 ys zs second.1))

-- a fault at the first piece
pub fails : (h0 h1 : Option (List ℕ)) (b0 xs ys : List ℕ) → ((left : List ℕ) × Puts h0 b0 h1 left xs) → (left : List ℕ) × Puts h0 b0 h1 left (xs ++ ys)
fails h0 h1 b0 xs ys first = (first.0 ++ ys, cut h0 h1 b0 first.0 xs ys first.1)

-- the block was written
pub flushed : (h0 h1 : Option (List ℕ)) (block : List ℕ) → Appends h0 h1 block → Puts h0 block h1 [] []
flushed h0 h1 block all = (block, all, refl)

-- some front of the bytes was written, where the block was empty
pub fronted : (h0 h1 : Option (List ℕ)) (bytes : List ℕ) → AppendsFront h0 h1 bytes → (left : List ℕ) × Puts h0 [] h1 left bytes
fronted h0 h1 bytes front = (drop front.0 bytes, (take front.0 bytes, front.2, sym (take-append-drop front.0 bytes)))

-- some front of the block was written
pub front_left : (h0 h1 : Option (List ℕ)) (block : List ℕ) → AppendsFront h0 h1 block → (left : List ℕ) × Puts h0 block h1 left []
front_left h0 h1 block front = (drop front.0 block, (take front.0 block, front.2, append-nil block ∙ sym (take-append-drop front.0 block)))

-- a last call, whose answer is handed on
pub passes_then : {T E : Type 0} (r : Result T E) (h0 h1 h2 : Option (List ℕ)) (b0 b1 b2 xs ys : List ℕ) → Puts h0 b0 h1 b1 xs → Passes r h1 b1 h2 b2 ys → Passes r h0 b0 h2 b2 (xs ++ ys)
passes_then (Ok x) h0 h1 h2 b0 b1 b2 xs ys first second = then h0 h1 h2 b0 b1 b2 xs ys first second
passes_then (Err e) h0 h1 h2 b0 b1 b2 xs ys first second = (second.0, then h0 h1 h2 b0 b1 second.0 xs ys first second.1)

-- the bytes went past an empty block
pub passed : {T E : Type 0} (r : Result T E) (h0 h1 : Option (List ℕ)) (block bytes : List ℕ) → block ≡ [] → OnOk r (Appends h0 h1 bytes) → AppendsFront h0 h1 bytes → Passes r h0 block h1 block bytes
passed (Ok x) h0 h1 block bytes none all front = (bytes, all, ap (λ b. b ++ bytes) none ∙ sym (append-nil bytes) ∙ ap (λ b. bytes ++ b) (sym none))
passed (Err e) h0 h1 block bytes none all front =
    (drop front.0 bytes, (take front.0 bytes, front.2, ap (λ b. b ++ bytes) none ∙ sym (take-append-drop front.0 bytes)))

-- ---- a loop over what is written one behind the other

pub items_then : {X : Type 0} (f : X → List ℕ) (xs : List X) (i : ℕ) (d : X) (h0 h1 h2 : Option (List ℕ)) (b0 b1 b2 : List ℕ) → i < length xs → Puts h0 b0 h1 b1 (flat_map f (take i xs)) → Puts h1 b1 h2 b2 (f (get_or xs i d)) → Puts h0 b0 h2 b2 (flat_map f (take (i + 1) xs))
items_then f xs i d h0 h1 h2 b0 b1 b2 within first second =
    let more : flat_map f (take (i + 1) xs) ≡ flat_map f (take i xs) ++ f (get_or xs i d) = ap (flat_map f) (take_more xs i d within) ∙ flat_map-append f (take i xs) (get_or xs i d ∷ []) ∙ ap (λ l. flat_map f (take i xs) ++ l) (append-nil (f (get_or xs i d))) in
    subst (Puts h0 b0 h2 b2) (sym more) (then h0 h1 h2 b0 b1 b2 (flat_map f (take i xs)) (f (get_or xs i d)) first second)

pub items_fail : {X : Type 0} (f : X → List ℕ) (xs : List X) (i : ℕ) (d : X) (h0 h1 h2 : Option (List ℕ)) (b0 b1 : List ℕ) → i < length xs → Puts h0 b0 h1 b1 (flat_map f (take i xs)) → ((left : List ℕ) × Puts h1 b1 h2 left (f (get_or xs i d))) → (left : List ℕ) × Puts h0 b0 h2 left (flat_map f xs)
items_fail {X} f xs i d h0 h1 h2 b0 b1 within first second =
    let parts : flat_map f (take i xs) ++ flat_map f (drop i xs) ≡ flat_map f xs = sym (flat_map-append f (take i xs) (drop i xs)) ∙ ap (flat_map f) (take-append-drop i xs) in
    let here : flat_map f (drop i xs) ≡ f (get_or xs i d) ++ flat_map f (drop (i + 1) xs) = ap (flat_map f) (drop_more xs i d within) in
    let whole : flat_map f (take i xs) ++ (f (get_or xs i d) ++ flat_map f (drop (i + 1) xs)) ≡ flat_map f xs = ap (λ l. flat_map f (take i xs) ++ l) (sym here) ∙ parts in
    let fault = fails_then h0 h1 h2 b0 b1 (flat_map f (take i xs)) (f (get_or xs i d)) (flat_map f (drop (i + 1) xs)) first second in
    (fault.0, subst (Puts h0 b0 h2 fault.0) whole fault.1)

-- a fault at the second piece
pub fails_second : (h0 h1 h2 : Option (List ℕ)) (b0 b1 xs ys : List ℕ) → Puts h0 b0 h1 b1 xs → ((left : List ℕ) × Puts h1 b1 h2 left ys) → (left : List ℕ) × Puts h0 b0 h2 left (xs ++ ys)
fails_second h0 h1 h2 b0 b1 xs ys first second = (second.0, then h0 h1 h2 b0 b1 second.0 xs ys first second.1)

-- ---- a loop over runs of bytes

rest_is : (bytes : List ℕ) (at : ℕ) → take (length bytes - at) (drop at bytes) ≡ drop at bytes
rest_is bytes at = take_all (length bytes - at) (drop at bytes) (omega (arith, length-drop at bytes))

pub run_then : (f : ℕ → List ℕ) (bytes : List ℕ) (at n : ℕ) (h0 h1 h2 : Option (List ℕ)) (b0 b1 b2 : List ℕ) → Puts h0 b0 h1 b1 (flat_map f (take at bytes)) → Puts h1 b1 h2 b2 (flat_map f (take n (take (length bytes - at) (drop at bytes)))) → Puts h0 b0 h2 b2 (flat_map f (take (at + n) bytes))
run_then f bytes at n h0 h1 h2 b0 b1 b2 first second =
    let more : flat_map f (take (at + n) bytes) ≡ flat_map f (take at bytes) ++ flat_map f (take n (drop at bytes)) = ap (flat_map f) (take-add at n bytes) ∙ flat_map-append f (take at bytes) (take n (drop at bytes)) in
    let here : Puts h1 b1 h2 b2 (flat_map f (take n (drop at bytes))) = subst (λ l. Puts h1 b1 h2 b2 (flat_map f (take n l))) (rest_is bytes at) second in
    subst (Puts h0 b0 h2 b2) (sym more) (then h0 h1 h2 b0 b1 b2 (flat_map f (take at bytes)) (flat_map f (take n (drop at bytes))) first here)

pub run_fails : (f : ℕ → List ℕ) (bytes : List ℕ) (at : ℕ) (h0 h1 h2 : Option (List ℕ)) (b0 b1 : List ℕ) → Puts h0 b0 h1 b1 (flat_map f (take at bytes)) → ((left : List ℕ) × Puts h1 b1 h2 left (flat_map f (take (length bytes - at) (drop at bytes)))) → (left : List ℕ) × Puts h0 b0 h2 left (flat_map f bytes)
run_fails f bytes at h0 h1 h2 b0 b1 first second =
    let parts : flat_map f (take at bytes) ++ flat_map f (drop at bytes) ≡ flat_map f bytes = sym (flat_map-append f (take at bytes) (drop at bytes)) ∙ ap (flat_map f) (take-append-drop at bytes) in
    let here : Puts h1 b1 h2 second.0 (flat_map f (drop at bytes)) = subst (λ l. Puts h1 b1 h2 second.0 (flat_map f l)) (rest_is bytes at) second.1 in
    (second.0, subst (Puts h0 b0 h2 second.0) parts (then h0 h1 h2 b0 b1 second.0 (flat_map f (take at bytes)) (flat_map f (drop at bytes)) first here))

-- ---- the whole

-- what went to the sink is a front of what was to go
pub left_front : (h0 h1 : Option (List ℕ)) (bytes : List ℕ) → ((left : List ℕ) × Puts h0 [] h1 left bytes) → AppendsFront h0 h1 bytes
left_front h0 h1 bytes (left, put) =
    let front : take (length put.0) bytes ≡ put.0 = ap (take (length put.0)) put.2 ∙ take-append_seam put.0 left in
    let size : length bytes ≡ length put.0 + length left = ap length put.2 ∙ length-append put.0 left in
    (length put.0, omega arith, subst (Appends h0 h1) (sym front) put.1)

-- and all of it where the block was written at the end
pub all_put : (h0 h1 h2 : Option (List ℕ)) (b1 b2 bytes : List ℕ) → Puts h0 [] h1 b1 bytes → Puts h1 b1 h2 b2 [] → b2 ≡ [] → Appends h0 h2 bytes
all_put h0 h1 h2 b1 b2 bytes first last none =
    let put = then h0 h1 h2 [] b1 b2 bytes [] first last in
    let whole : put.0 ≡ bytes = sym (append-nil put.0) ∙ ap (λ b. put.0 ++ b) (sym none) ∙ sym put.2 ∙ append-nil bytes in
    subst (Appends h0 h2) whole put.1

pub last_fails : (h0 h1 h2 : Option (List ℕ)) (b1 bytes : List ℕ) → Puts h0 [] h1 b1 bytes → ((left : List ℕ) × Puts h1 b1 h2 left []) → AppendsFront h0 h2 bytes
last_fails h0 h1 h2 b1 bytes first last =
    let put = fails_second h0 h1 h2 [] b1 bytes [] first last in
    left_front h0 h2 bytes (put.0, subst (Puts h0 [] h2 put.0) (append-nil bytes) put.1)

-- ---- after a fault

pub faulted : {T E : Type 0} (r : Result T E) (h0 h1 : Option (List ℕ)) (b0 b1 bytes : List ℕ) → IsErr r → ((left : List ℕ) × Puts h0 b0 h1 left bytes) → Passes r h0 b0 h1 b1 bytes
faulted (Ok x) h0 h1 b0 b1 bytes err left = absurd (cc)
faulted (Err e) h0 h1 b0 b1 bytes err left = left

pub takes_faulted : {E : Type 0} (r : Result ℕ E) (h0 h1 : Option (List ℕ)) (b0 b1 : List ℕ) (text : ℕ → List ℕ) (bytes : List ℕ) → IsErr r → ((left : List ℕ) × Puts h0 b0 h1 left (flat_map text bytes)) → Takes r h0 b0 h1 b1 text bytes
takes_faulted (Ok x) h0 h1 b0 b1 text bytes err left = absurd (cc)
takes_faulted (Err e) h0 h1 b0 b1 text bytes err left = left

-- ---- a run of a string

-- bytes that need no escape
plain_text : (b : ℕ) → is_plain b ≡ true → escaped b ≡ b ∷ []
plain_text b plain =
    let a : eqb b 34 ≡ false = grind (arith, nat_tests) in
    let c : eqb b 92 ≡ false = grind (arith, nat_tests) in
    let d : eqb b 10 ≡ false = grind (arith, nat_tests) in
    let e : eqb b 13 ≡ false = grind (arith, nat_tests) in
    rw (a, c, d, e) refl

plain_step : (b : ℕ) (bs : List ℕ) (q : Bool) → is_plain b ≡ q → flat_map escaped (take (prefix_len is_plain bs) bs) ≡ take (prefix_len is_plain bs) bs → flat_map escaped (take (cond q (1 + prefix_len is_plain bs) 0) (b ∷ bs)) ≡ take (cond q (1 + prefix_len is_plain bs) 0) (b ∷ bs)
plain_step b bs true plain rest =
    let one : 1 + prefix_len is_plain bs ≡ suc (prefix_len is_plain bs) = omega arith in
    rw (one, plain_text b plain) (ap (λ l. b ∷ l) rest)
plain_step b bs false plain rest = refl

pub plain_run : (bs : List ℕ) → flat_map escaped (take (prefix_len is_plain bs) bs) ≡ take (prefix_len is_plain bs) bs
plain_run [] = refl
plain_run (b ∷ bs) = plain_step b bs (is_plain b) refl (plain_run bs)

pub plain_put : (h0 h1 : Option (List ℕ)) (b0 b1 bytes : List ℕ) (n : ℕ) → n ≡ prefix_len is_plain bytes → Puts h0 b0 h1 b1 (take n bytes) → Puts h0 b0 h1 b1 (flat_map escaped (take n bytes))
plain_put h0 h1 b0 b1 bytes n is put = subst (λ k. Puts h0 b0 h1 b1 (flat_map escaped (take k bytes))) (sym is) (subst (Puts h0 b0 h1 b1) (sym (plain_run bytes)) (subst (λ k. Puts h0 b0 h1 b1 (take k bytes)) is put))

pub plain_fails : (h0 h1 : Option (List ℕ)) (b0 bytes : List ℕ) (n : ℕ) → n ≡ prefix_len is_plain bytes → ((left : List ℕ) × Puts h0 b0 h1 left (take n bytes)) → (left : List ℕ) × Puts h0 b0 h1 left (flat_map escaped bytes)
plain_fails h0 h1 b0 bytes n is (left, put) =
    let whole : flat_map escaped (take n bytes) ++ flat_map escaped (drop n bytes) ≡ flat_map escaped bytes = sym (flat_map-append escaped (take n bytes) (drop n bytes)) ∙ ap (flat_map escaped) (take-append-drop n bytes) in
    let cut_put = fails h0 h1 b0 (flat_map escaped (take n bytes)) (flat_map escaped (drop n bytes)) (left, plain_put h0 h1 b0 left bytes n is put) in
    (cut_put.0, subst (Puts h0 b0 h1 cut_put.0) whole cut_put.1)

pub escape_fails : (h0 h1 : Option (List ℕ)) (b0 bytes : List ℕ) → 0 < length bytes → ((left : List ℕ) × Puts h0 b0 h1 left (escaped (get_or bytes 0 0))) → (left : List ℕ) × Puts h0 b0 h1 left (flat_map escaped bytes)
escape_fails h0 h1 b0 [] some fault = absurd (omega arith)
escape_fails h0 h1 b0 (b ∷ bytes) some fault = fails h0 h1 b0 (escaped b) (flat_map escaped bytes) fault
