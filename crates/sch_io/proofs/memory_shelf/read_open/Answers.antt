-- What is left of the open file is what is copied and what is left after it.
use Rattle.std.proofs.Common.{◌≡◌, ◌+◌, ◌++◌, ℕ, List, [], take, drop, Option, refl, sym, ap, ◌∙◌, arith, length-drop, ltb-true, take-append-drop}
use Rattle.std.specs.Option.{option_map_or}
use Rattle.std.proofs.lemmas.List.{drop-drop}
use Rattle.std.proofs.lemmas.Option.{slice_get_read}
use Rattle.sch_io.specs.declared.memory_shelf.NamedFile.{NamedFile}
use Rattle.sch_io.specs.inner.NamedFiles.{content_at}
use Rattle.sch_io.proofs.Fronts.{rest_from}
use Rattle.sch_io.proofs.memory_shelf.read_open.Goals as goal

-- the items from a place on, of which the first n are known
cut : (at n : ℕ) (content front : List ℕ) → front ≡ take n (drop at content) → drop at content ≡ front ++ drop (at + n) content
cut at n content front is = sym (take-append-drop n (drop at content)) ∙ (ap (λ l. l ++ drop n (drop at content)) (sym is) ∙ ap (λ l. front ++ l) (drop-drop n at content))

pub returns : goal.returns
returns c =
    let content : content_at c.args.files.now c.in-Some.open.place ≡ c.as_slice.result.now =
    ap (λ (o : Option NamedFile). option_map_or (λ (file : NamedFile). file.content.items) o [])
    (slice_get_read c.args.files.now _ c.in-Some.open.place c.in-Some-get.file.now refl (ltb-true _ _ (sym c.in-Some-get.ensures.lookup.0)) c.in-Some-get.ensures.lookup.1)
    ∙ sym c.as_slice.ensures.value in
    let within = rw (c.in-Some.is, content) at c.requires.within in
    let fits = rw (rest_from c.in-Some.open.at c.as_slice.result.now) at c.copy_front-n.ensures.fits in
    let copied = rw (rest_from c.in-Some.open.at c.as_slice.result.now) at c.copy_front-n.ensures.copied in
    rw (c.in-Some.is, content) (record {
      bound = omega (arith, fits, c.copy_front-n.ensures.same_len);
      fills = fits;
      bytes = cut c.in-Some.open.at c.copy_front-n.result c.as_slice.result.now _ copied;
      taken = refl;
      still_within = omega (arith, fits, within, length-drop c.in-Some.open.at c.as_slice.result.now);
    })
