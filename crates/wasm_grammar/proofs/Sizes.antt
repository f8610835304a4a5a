-- What a reader of parts and names takes is spelled so, and what is spelled so it takes.
use Rattle.std.proofs.Common.{◌≡◌, ℕ, ◌+◌, ◌≤◌, false, cond, ltb, List, ◌++◌, length, take, drop, Some, None, refl, sym, ap, subst, ◌∙◌, append_assoc, length-append, arith}
use Rattle.std.proofs.lemmas.Bool.{ltb-false, le-ltb}
use Rattle.std.proofs.lemmas.List.{take_at, drop_at, take-append-drop, length-take}
use Rattle.std.specs.Str.{is_utf8}
use Rattle.std.proofs.lemmas.Str.{IsUtf8-from_is_utf8, is_utf8-from_IsUtf8}
use Rattle.wasm_grammar.specs.Forms.{Front}
use Rattle.wasm_grammar.specs.Leb128.{IsU32}
use Rattle.wasm_grammar.specs.Binary.{IsBytes, IsName}
use Rattle.wasm_grammar.specs.Reading.{u32_at, part_at, name_at}
use Rattle.wasm_grammar.proofs.Steps.{bind_some, guard_not, guard_is, some_is}
use Rattle.wasm_grammar.proofs.Integers.{ReadsPlain, u32_reads}

-- what stands behind a number doesn't matter to it
pub u32_any : (k l : ℕ) (bytes : List ℕ) (n : ℕ) → IsU32 k bytes n → IsU32 l bytes n
u32_any k l bytes n p = record { groups = p.groups; short = p.short; fits = p.fits }

-- a size, and so many bytes
pub record Part (after : ℕ) (bytes part rest : List ℕ) : Type 0 where
  pub front : List ℕ
  pub parts : bytes ≡ front ++ part ++ rest
  pub size : IsU32 after front (length part)

cut_part : (after k : ℕ) (bytes front rest : List ℕ) (n : ℕ) → bytes ≡ front ++ rest → IsU32 k front n → n ≤ length rest → Part after bytes (take n rest) (drop n rest)
cut_part after k bytes front rest n e size long =
    let len : n ≡ length (take n rest) = omega (arith, length-take n rest) in
    record {
      front = front;
      parts = e ∙ ap (λ (w : List ℕ). front ++ w) (sym (take-append-drop n rest)) ∙ sym (append_assoc front (take n rest) (drop n rest));
      size = subst (λ (m : ℕ). IsU32 after front m) len (u32_any k after front n size);
    }

pub part_takes : (after : ℕ) (bytes : List ℕ) (x : List ℕ × List ℕ) → part_at bytes ≡ Some x → Part after bytes x.0 x.1
unfolding part_at
part_takes after bytes x e =
    let a = bind_some (u32_at bytes) (λ n. cond (ltb (length n.1) n.0) None (Some (take n.0 n.1, drop n.0 n.1))) x e in
    let g = guard_not (ltb (length a.0.1) a.0.0) (Some (take a.0.0 a.0.1, drop a.0.0 a.0.1)) x a.2 in
    let t = u32_reads.takes after bytes a.0 a.1 in
    subst (λ (y : List ℕ × List ℕ). Part after bytes y.0 y.1) (some_is _ _ g.1) (cut_part after _ bytes t.front a.0.1 a.0.0 t.parts t.is_form (ltb-false _ _ g.0))

pub part_again : (k : ℕ) (front part rest : List ℕ) → IsU32 k front (length part) → part_at (front ++ (part ++ rest)) ≡ Some (part, rest)
unfolding part_at
part_again k front part rest size =
    let one = u32_reads.again k front (part ++ rest) (length part) (u32_any k _ front (length part) size) in
    let long : ltb (length (part ++ rest)) (length part) ≡ false = le-ltb _ _ (omega (arith, length-append part rest)) in
    rw (one, long, take_at part rest (length part) refl, drop_at part rest (length part) refl) refl

pub bytes_read : ReadsPlain IsBytes part_at
bytes_read = record {
  takes = λ after bytes x e.
      let t = part_takes (after + length x.1 + length x.0) bytes x e in
      record { front = t.front ++ x.0; parts = t.parts; is_form = record { front = t.front; back = x.0; parts = refl; size = t.size; body = refl } };
  again = λ after front rest x p.
      let whole_is : front ++ rest ≡ p.front ++ (p.back ++ rest) = ap (λ (w : List ℕ). w ++ rest) p.parts ∙ append_assoc p.front p.back rest in
      let back_is : p.back ≡ x = sym p.body in
      rw (whole_is, part_again _ p.front p.back rest p.size, back_is) refl;
}

pub name_reads : ReadsPlain IsName name_at
unfolding name_at
name_reads = record {
  takes = λ after bytes x e.
      let a = bind_some (part_at bytes) (λ x. cond (is_utf8 x.0) (Some x) None) x e in
      let g = guard_is (is_utf8 a.0.0) (Some a.0) x a.2 in
      let t = bytes_read.takes after bytes a.0 a.1 in
      subst (λ (y : List ℕ × List ℕ). Front IsName after bytes y.0 y.1) (some_is _ _ g.1)
      (record { front = t.front; parts = t.parts; is_form = record { is_bytes = t.is_form; is_text = IsUtf8-from_is_utf8 a.0.0 g.0 } });
  again = λ after front rest x p. rw (bytes_read.again after front rest x p.is_bytes, is_utf8-from_IsUtf8 x p.is_text) refl;
}
