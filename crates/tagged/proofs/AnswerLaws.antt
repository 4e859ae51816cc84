-- What is in an answer of several parts, part by part.
use Rattle.std.specs.Prelude.{Result, Ok}
use mathlib.Core.Path.{◌≡◌, ap}

-- Of two parts.
pub ok_two : {A B E : Type 0} {a c : A} {b d : B} → ◌≡◌ {A = Result (A × B) E} (Ok (a, b)) (Ok (c, d)) → (a ≡ c) × (b ≡ d)
ok_two {A} {B} {E} {a} {c} {b} {d} h =
    let e : ◌≡◌ {A = A × B} (a, b) (c, d) = cc in
    (ap (λ (p : A × B). p.0) e, ap (λ (p : A × B). p.1) e)

-- Of three parts.
pub ok_three : {A B C E : Type 0} {a d : A} {b f : B} {c g : C} → ◌≡◌ {A = Result (A × B × C) E} (Ok (a, b, c)) (Ok (d, f, g)) →
    (a ≡ d) × (b ≡ f) × (c ≡ g)
ok_three {A} {B} {C} {E} {a} {d} {b} {f} {c} {g} h =
    let e : ◌≡◌ {A = A × B × C} (a, b, c) (d, f, g) = cc in
    (ap (λ (p : A × B × C). p.0) e, ap (λ (p : A × B × C). p.1) e, ap (λ (p : A × B × C). p.2) e)
