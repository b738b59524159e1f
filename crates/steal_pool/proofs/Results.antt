-- A clause on a result that follows from another one.
use Rattle.std.specs.Prelude.{◌≡◌, false, Result, Ok, Err, OnOk, IfOk, MatchResult, is_err, is_ok, if◌then◌else◌}

pub on_ok : {T E : Type 0} (r : Result T E) (A B : Type 0) → (A → B) → OnOk r A → OnOk r B
on_ok (Ok v) A B h p = h p
on_ok (Err e) A B h p = tt

pub if_ok : {T E : Type 0} (r : Result T E) (F G : T → Type 0) → ((v : T) → F v → G v) → IfOk r F → IfOk r G
if_ok (Ok v) F G h p = h v p
if_ok (Err e) F G h p = tt

pub if_ok2 : {T E : Type 0} (r : Result T E) (F G H : T → Type 0) → ((v : T) → F v → G v → H v) → IfOk r F → IfOk r G → IfOk r H
if_ok2 (Ok v) F G H h p q = h v p q
if_ok2 (Err e) F G H h p q = tt

pub if_ok3 : {T E : Type 0} (r : Result T E) (F G H K : T → Type 0) → ((v : T) → F v → G v → H v → K v) → IfOk r F → IfOk r G → IfOk r H → IfOk r K
if_ok3 (Ok v) F G H K h p q s = h v p q s
if_ok3 (Err e) F G H K h p q s = tt

pub matched : {T E : Type 0} (r : Result T E) (F F' : T → Type 0) (G : E → Type 0) → ((v : T) → F v → F' v) → MatchResult r F G → MatchResult r F' G
matched (Ok v) F F' G h p = h v p
matched (Err e) F F' G h p = p

pub pushed : {T E X : Type 0} (r : Result T E) (new a b : X) → is_err r ≡ false → new ≡ (if is_ok r then a else b) → new ≡ a
pushed (Ok v) new a b is e = e
pushed (Err x) new a b is e = absurd (cc)
