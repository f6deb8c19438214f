mod Frame
mod Facts
