mod LabelLemmas
mod CountLemmas
mod TallyLemmas
mod LineLemmas
