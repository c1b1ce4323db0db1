-- The three kinds of rows: what their default is, and that rows which `==` holds of are one row.
use Rattle.std.proofs.Common.{◌≡◌, ◌&&◌, true, eqb}
use Rattle.std.proofs.lemmas.Bool.{and_parts, eqb-true}
use Rattle.text.specs.declared.place.Place.{Place}
use Rattle.table.specs.Kinds.{no_place}
use Rattle.table.specs.declared.binding.Binding.{Binding}
use Rattle.table.specs.declared.loose_end.LooseEnd.{LooseEnd}

pub zero_place : (x : Place) → (x.offset ≡ 0) × (x.length ≡ 0) → x ≡ no_place
zero_place x h = λ i. record { offset = h.0 i; length = h.1 i }

pub zero_binding : (x : Binding) → ((x.name.offset ≡ 0) × (x.name.length ≡ 0)) × ((x.value.offset ≡ 0) × (x.value.length ≡ 0)) → x ≡ record { name = no_place; value = no_place }
zero_binding x h = λ i. record { name = zero_place x.name h.0 i; value = zero_place x.value h.1 i }

pub zero_loose_end : (x : LooseEnd) → (x.«module» ≡ 0) × ((x.offset ≡ 0) × (x.length ≡ 0)) → x ≡ record { «module» = 0; offset = 0; length = 0 }
zero_loose_end x h = λ i. record { «module» = h.0 i; offset = h.1.0 i; length = h.1.1 i }

pub same_place : (x y : Place) → (eqb x.offset y.offset && eqb x.length y.length) ≡ true → x ≡ y
same_place x y e =
    let h = and_parts (eqb x.offset y.offset) (eqb x.length y.length) e in
    λ i. record { offset = eqb-true x.offset y.offset h.0 i; length = eqb-true x.length y.length h.1 i }

pub same_binding : (x y : Binding) → ((eqb x.name.offset y.name.offset && eqb x.name.length y.name.length) && (eqb x.value.offset y.value.offset && eqb x.value.length y.value.length)) ≡ true → x ≡ y
same_binding x y e =
    let h = and_parts _ _ e in
    λ i. record { name = same_place x.name y.name h.0 i; value = same_place x.value y.value h.1 i }

pub same_loose_end : (x y : LooseEnd) → (eqb x.«module» y.«module» && (eqb x.offset y.offset && eqb x.length y.length)) ≡ true → x ≡ y
same_loose_end x y e =
    let h = and_parts (eqb x.«module» y.«module») (eqb x.offset y.offset && eqb x.length y.length) e in
    let k = and_parts (eqb x.offset y.offset) (eqb x.length y.length) h.1 in
    λ i. record { «module» = eqb-true x.«module» y.«module» h.0 i; offset = eqb-true x.offset y.offset k.0 i; length = eqb-true x.length y.length k.1 i }
