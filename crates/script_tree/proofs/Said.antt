-- A line on a path is written with the words that it was read from.
use Rattle.std.proofs.Common.{◌≡◌, ℕ, ◌+◌, Option, List, ◌++◌, length, ap, ap₂, subst, ◌∙◌, arith, length-append}
use Rattle.std.specs.List.{AllByRecursion}
use Rattle.script_tree.specs.declared.form.Form.{Form}
use Rattle.script_tree.specs.declared.line.Line.{Line}
use Rattle.script_tree.specs.Forms.{shapes}
use Rattle.script_tree.specs.Lines.{line_made}
use Rattle.script_tree.specs.Parts.{Part}
use Rattle.script_tree.specs.Reading.{State}
use Rattle.script_tree.specs.Spelling.{lead, part_words}
use Rattle.script_tree.specs.Tree.{Tree}
use Rattle.script_tree.proofs.Each.{each-append}
use Rattle.script_tree.proofs.Knowing.{names_agree}
use Rattle.script_tree.proofs.Leads.{lead_seen, lead_words, few_shapes}
use Rattle.script_tree.proofs.Paths.{Path, Takes, Extends, Agrees, form_words, line_words, IsWord, AreWords}
use Rattle.script_tree.proofs.Readings.{IsRead, is_read}
use Rattle.script_tree.proofs.Remade.{made_again, wanted_same}
use Rattle.script_tree.proofs.Spelled.{words_spelled}

read_said : (tree : Tree) (s : State) (words : List (List ℕ)) (l : Line) → AllByRecursion (Agrees tree) s.names → IsRead s words l
    → (line_words tree l ≡ words) × AreWords words
read_said tree s words l a m =
    let x = words_spelled tree s.names a (shapes m.form) m.rest m.parts m.read in
    let y = made_again m.form m.parts in
    let words_are : lead m.form ++ m.rest ≡ words = lead_seen words (record { form = m.form; rest = m.rest }) m.told in
    let own : line_words tree (line_made m.form m.parts) ≡ lead m.form ++ part_words tree (shapes m.form) m.parts
    = ap₂ (λ (o : Option Form) (ps : List Part). form_words tree o ps) y.has_form (y.has_parts ∙ wanted_same x.wanted) in
    let same : lead m.form ++ part_words tree (shapes m.form) m.parts ≡ words = ap (λ (ws : List (List ℕ)). lead m.form ++ ws) x.spelled ∙ words_are in
    let z = lead_words m.form in
    let count : length (lead m.form ++ m.rest) ≡ length (lead m.form) + length m.rest = length-append (lead m.form) m.rest in (
      subst (λ (k : Line). line_words tree k ≡ words) m.is (own ∙ same),
      subst (λ ws. AreWords ws) words_are (record {
        some = omega (arith, z.some, count);
        few = omega (arith, z.few, count, x.count, few_shapes m.form);
        each = each-append IsWord (lead m.form) m.rest z.each x.each;
      }),
    )

-- what a line was read from is what it is written with, and that is one to five words
pub said : {s t : State} {lines : List (List (List ℕ))} {words : List (List ℕ)} {l : Line} → Path s lines → Takes s words l t → (tree : Tree) → Extends s tree
    → (line_words tree l ≡ words) × AreWords words
said {s} {words = words} {l = l} path taken tree e = read_said tree s words l (names_agree path tree e) (is_read s words l taken.read)
