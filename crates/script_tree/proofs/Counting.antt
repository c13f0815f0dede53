-- A script has no more declarations and texts than it may have.
use Rattle.std.proofs.Common.{◌≡◌, ℕ, ◌+◌, ◌≤◌, ◌==◌, ◌∙◌, Bool, false, nat_le, List, [], ◌∷◌, ◌++◌, length, codes, filter, arith, length-append, refl, ap, not-suc-le-zero}
use Rattle.std.proofs.lemmas.Bool.{leb-false}
use Rattle.std.proofs.lemmas.List.Elements.{filter-append}
use Rattle.script_tree.specs.declared.counts.Counts.{Counts}
use Rattle.script_tree.specs.declared.program.Decl.{Decl}
use Rattle.script_tree.specs.declared.program.Kind.{Kind}
use Rattle.script_tree.specs.declared.program.Kind.TheVariants as kind
use Rattle.script_tree.specs.declared.program.Text.{Text}
use Rattle.script_tree.specs.Lines.{kind_made, name_in, part_at}
use Rattle.script_tree.specs.Names.{sort_of, sort_number}
use Rattle.script_tree.specs.Reading.{State, counted, is_kind_full}
use Rattle.script_tree.specs.WellFormed.{how_many}
use Rattle.script_tree.proofs.Mains.{main_count, TextsMove, same_texts, a_fiber, main_begun, file_mains}
use Rattle.script_tree.proofs.Nesting.{IsNested}
use Rattle.script_tree.proofs.Moves.{Moves, declares, begins_fiber, begins_main, states, adds_leaf, opens, opens_select}

-- ---- declarations

-- no more declarations than were counted, and no more were counted than there may be
pub record FewDecls (counts : Counts) (decls : List Decl) : Type 0 where
  pub triggers : how_many (λ s. s == 0) decls ≤ counts.triggers
  pub comps : how_many (λ s. s == 1) decls ≤ counts.comps
  pub objects : how_many (λ s. nat_le 2 s) decls ≤ counts.objects
  pub few_triggers : counts.triggers ≤ 256
  pub few_comps : counts.comps ≤ 256
  pub few_objects : counts.objects ≤ 64

one_more : (of_sort : ℕ → Bool) (decls : List Decl) (d : Decl)
    → how_many of_sort (decls ++ d ∷ []) ≡ how_many of_sort decls + how_many of_sort (d ∷ [])
one_more of_sort decls d =
    ap (λ (ds : List Decl). length ds) (filter-append (λ (e : Decl). of_sort (sort_number (sort_of e.kind))) decls (d ∷ []))
    ∙ length-append (filter (λ (e : Decl). of_sort (sort_number (sort_of e.kind))) decls) (filter (λ (e : Decl). of_sort (sort_number (sort_of e.kind))) (d ∷ []))

record OneMore (decls : List Decl) (d : Decl) : Type 0 where
  triggers : how_many (λ s. s == 0) (decls ++ d ∷ []) ≡ how_many (λ s. s == 0) decls + how_many (λ s. s == 0) (d ∷ [])
  comps : how_many (λ s. s == 1) (decls ++ d ∷ []) ≡ how_many (λ s. s == 1) decls + how_many (λ s. s == 1) (d ∷ [])
  objects : how_many (λ s. nat_le 2 s) (decls ++ d ∷ []) ≡ how_many (λ s. nat_le 2 s) decls + how_many (λ s. nat_le 2 s) (d ∷ [])

with_one_more : (decls : List Decl) (d : Decl) → OneMore decls d
with_one_more decls d =
    record { triggers = one_more (λ s. s == 0) decls d; comps = one_more (λ s. s == 1) decls d; objects = one_more (λ s. nat_le 2 s) decls d }

an_object : (counts : Counts) (decls : List Decl) (d : Decl) → how_many (λ s. s == 0) (d ∷ []) ≡ 0 → how_many (λ s. s == 1) (d ∷ []) ≡ 0
    → how_many (λ s. nat_le 2 s) (d ∷ []) ≡ 1 → nat_le 64 counts.objects ≡ false → FewDecls counts decls
    → FewDecls (record counts { objects = counts.objects + 1 }) (decls ++ d ∷ [])
an_object counts decls d a b c full f =
    let m = with_one_more decls d in
    let l = leb-false 64 counts.objects full in
    record {
      triggers = omega (arith, m.triggers, a, f.triggers);
      comps = omega (arith, m.comps, b, f.comps);
      objects = omega (arith, m.objects, c, f.objects);
      few_triggers = f.few_triggers;
      few_comps = f.few_comps;
      few_objects = omega (arith, l);
    }

few_declared : (counts : Counts) (decls : List Decl) (name : List ℕ) (k : Kind) → is_kind_full counts k ≡ false → FewDecls counts decls
    → FewDecls (counted counts k) (decls ++ record { name = name; kind = k } ∷ [])
few_declared counts decls name kind.Trigger full f =
    let m = with_one_more decls (record { name = name; kind = kind.Trigger }) in
    let l = leb-false 256 counts.triggers full in
    record {
      triggers = omega (arith, m.triggers, f.triggers);
      comps = omega (arith, m.comps, f.comps);
      objects = omega (arith, m.objects, f.objects);
      few_triggers = omega (arith, l);
      few_comps = f.few_comps;
      few_objects = f.few_objects;
    }
few_declared counts decls name kind.Comp full f =
    let m = with_one_more decls (record { name = name; kind = kind.Comp }) in
    let l = leb-false 256 counts.comps full in
    record {
      triggers = omega (arith, m.triggers, f.triggers);
      comps = omega (arith, m.comps, f.comps);
      objects = omega (arith, m.objects, f.objects);
      few_triggers = f.few_triggers;
      few_comps = omega (arith, l);
      few_objects = f.few_objects;
    }
few_declared counts decls name kind.Mutex full f = an_object counts decls (record { name = name; kind = kind.Mutex }) refl refl refl full f
few_declared counts decls name kind.Cond full f = an_object counts decls (record { name = name; kind = kind.Cond }) refl refl refl full f
few_declared counts decls name (kind.Sem n) full f = an_object counts decls (record { name = name; kind = kind.Sem n }) refl refl refl full f
few_declared counts decls name (kind.Latch n) full f = an_object counts decls (record { name = name; kind = kind.Latch n }) refl refl refl full f
few_declared counts decls name kind.Ivar full f = an_object counts decls (record { name = name; kind = kind.Ivar }) refl refl refl full f
few_declared counts decls name kind.Stream full f = an_object counts decls (record { name = name; kind = kind.Stream }) refl refl refl full f

-- other lines change no counts of declarations
same_decls : (counts new : Counts) (decls : List Decl) → new.triggers ≡ counts.triggers → new.comps ≡ counts.comps → new.objects ≡ counts.objects
    → FewDecls counts decls → FewDecls new decls
same_decls counts new decls a b c f = record {
  triggers = rw a f.triggers;
  comps = rw b f.comps;
  objects = rw c f.objects;
  few_triggers = rw a f.few_triggers;
  few_comps = rw b f.few_comps;
  few_objects = rw c f.few_objects;
}

-- ---- lines

pub moves_decls : (s : State) {t : State} → Moves s t → FewDecls s.counts s.decls → FewDecls t.counts t.decls
moves_decls s (declares f parts p h full) c = few_declared s.counts s.decls (name_in (part_at parts 0)) (kind_made f parts) full c
moves_decls s (states x p h full breaks) c = same_decls s.counts _ s.decls refl refl refl c
moves_decls s (adds_leaf f parts p h few) c = same_decls s.counts _ s.decls refl refl refl c
moves_decls s (opens o p h full deep) c = same_decls s.counts _ s.decls refl refl refl c
moves_decls s (opens_select o p h full deep) c = same_decls s.counts _ s.decls refl refl refl c
moves_decls s _ c = c

-- ---- texts

-- 64 texts besides main's
abbrev pub FewTexts : State → Type 0
FewTexts s = length s.texts ≤ 64 + main_count s

-- a move without a text changes no count of texts
kept_texts : (s t : State) → TextsMove s t → length t.texts ≡ length s.texts → FewTexts s → FewTexts t
kept_texts s t (same_texts e m) l c = omega (arith, l, m, c)
kept_texts s t (a_fiber text e b a) l c =
    let more = ap (λ (ts : List Text). length ts) e ∙ length-append s.texts (text ∷ []) in
    let bad : 1 ≤ 0 = omega (arith, more, l) in absurd (not-suc-le-zero bad)
kept_texts s t (main_begun text name e b a) l c =
    let more = ap (λ (ts : List Text). length ts) e ∙ length-append s.texts (text ∷ []) in
    let bad : 1 ≤ 0 = omega (arith, more, l) in absurd (not-suc-le-zero bad)

pub moves_texts : (s : State) {t : State} → Moves s t → TextsMove s t → IsNested s → FewTexts s → FewTexts t
moves_texts s (declares f parts p h full) m n c = c
moves_texts s (begins_fiber parts p h full) m n c =
    let l = leb-false 64 (length s.texts) full in
    let more = length-append s.texts (record { name = name_in (part_at parts 0); block = length s.blocks } ∷ []) in omega (arith, l, more)
moves_texts s (begins_main h) m n c =
    let none = file_mains s.top.what s.outer h n in
    let more = length-append s.texts (record { name = codes "main"; block = length s.blocks } ∷ []) in omega (arith, none, more, c)
moves_texts s (states x p h full breaks) m n c = c
moves_texts s (adds_leaf f parts p h few) m n c = c
moves_texts s _ m n c = kept_texts s _ m refl c
